-- What one rule of a record gives a box that it names is what the rule gives where the record stands alone; and it gives no other box
-- anything.
-- Assumes nothing.
use mathlib.Core.Path.{◌≡◌, refl, sym, ap}
use mathlib.Core.Bool.{Bool, false, ◌&&◌, beq}
use mathlib.Core.List.Memᴰ
use mathlib.Core.List.{List, [], ◌∷◌, Memᴰ}
use Prim.Native.Nat.{ℕ}
use lib.Dec.{eqb, eqb→eq, eqb_refl}
use Rattle.lemmas.specs.Lists.{all, any}
use Rattle.lemmas.proofs.Members.{any_member}
use Rattle.lemmas.proofs.Tests.{T_same, false_T, both_left, both_right}
use Rattle.spec.specs.Kinds.{Place, kind_of}
use Rattle.spec.specs.Rules.{Literal, Rule, rules_of}
use lib.ListN.{get_or}
use Rattle.spec.specs.Records.{Rec, box_at, bad, is_rule}
use Rattle.spec.specs.Rounds.{has, names, gives}
use Rattle.spec.specs.OneRule.{alone}
use Rattle.spec.proofs.Named.{spoken_named}
use Rattle.theory.specs.Steps.{states_at}
use Rattle.theory.proofs.States.{holds_same}
use Rattle.theory.proofs.Places.{Names, alone_apart, good_apart}
use Rattle.theory.proofs.Embedding.{states_at_lem}
use Rattle.whylists.specs.Lines.{given_by}

-- two tests that are alike on a list's elements
all_alike : {A : Type 0} (p p' : A → Bool) (l : List A) → ((a : A) → Memᴰ a l → p a ≡ p' a) → all p l ≡ all p' l
all_alike p p' [] same = refl
all_alike p p' (a ∷ l) same = rw (same a (Memᴰ.head refl), all_alike p p' l (λ b m. same b (Memᴰ.tail m)))

any_alike : {A : Type 0} (p p' : A → Bool) (l : List A) → ((a : A) → Memᴰ a l → p a ≡ p' a) → any p l ≡ any p' l
any_alike p p' [] same = refl
any_alike p p' (a ∷ l) same = rw (same a (Memᴰ.head refl), any_alike p p' l (λ b m. same b (Memᴰ.tail m)))

-- only the states count
pub given_same : (s t : List ℕ) → ((b : ℕ) → get_or s b 2 ≡ get_or t b 2) → (b : ℕ) (state : Bool) (q : Rec) →
    given_by s b state q ≡ given_by t b state q
unfolding given_by gives has
given_same s t same b state q =
    ap (λ (e : Bool). is_rule q && e)
    (any_alike (gives s b state q) (gives t b state q) (rules_of (kind_of q.kind))
    (λ r m.
    ap (λ (e : Bool). e && any (names q b state) r.conclusions)
    (all_alike (has s q) (has t q) r.premises (λ l c. holds_same s t _ _ (same (box_at q l.place)) l.state))))

module _ (q : Rec) (s : List ℕ) (n : ℕ) (good : bad n q ≡ false) where
  abbrev lone : Rec
  lone = alone q.kind

  has_alike : (l : Literal) → Names q l.place → has s q l ≡ has (states_at q s) lone l
  unfolding has
  has_alike l m = sym (holds_same (states_at q s) s _ _ (states_at_lem q s n good l.place m) l.state)

  module _ (p : Place) (named : Names q p) (state : Bool) where
    box_alike : (p' : Place) → Names q p' → eqb (box_at q p') (box_at q p) ≡ eqb (box_at lone p') (box_at lone p)
    box_alike p' m =
        T_same _ _
        (λ t. rw (good_apart n q good p' p m named (eqb→eq _ _ t)) (eqb_refl (box_at lone p)))
        (λ t. rw (alone_apart q.kind p' p (eqb→eq _ _ t)) (eqb_refl (box_at q p)))

    names_alike : (l : Literal) → Names q l.place → names q (box_at q p) state l ≡ names lone (box_at lone p) state l
    unfolding names
    names_alike l m = ap (λ (e : Bool). e && beq l.state state) (box_alike l.place m)

    gives_alike : (r : Rule) → Memᴰ r (rules_of (kind_of q.kind)) →
        gives s (box_at q p) state q r ≡ gives (states_at q s) (box_at lone p) state lone r
    unfolding gives
    gives_alike r m =
        rw (
          all_alike (has s q) (has (states_at q s) lone) r.premises
              (λ l c. has_alike l (spoken_named q.kind r m l (Memᴰ.append_left r.conclusions c))),
          any_alike (names q (box_at q p) state) (names lone (box_at lone p) state) r.conclusions
              (λ l c. names_alike l (spoken_named q.kind r m l (Memᴰ.append_right r.premises c))),
        )

    pub given_alike : any (gives s (box_at q p) state q) (rules_of (kind_of q.kind))
        ≡ any (gives (states_at q s) (box_at lone p) state lone) (rules_of (kind_of q.kind))
    given_alike = any_alike _ _ _ gives_alike

  -- a box that the record does not name gets nothing
  pub given_none : (b : ℕ) → ((p : Place) → Names q p → box_at q p ≡ b → ⊥) → (state : Bool) →
      any (gives s b state q) (rules_of (kind_of q.kind)) ≡ false
  unfolding gives names
  given_none b other state =
      false_T (any (gives s b state q) (rules_of (kind_of q.kind)))
      (λ t.
      let rule = any_member (gives s b state q) (rules_of (kind_of q.kind)) t in
      let said = any_member (names q b state) rule.0.conclusions (both_right (all (has s q) rule.0.premises) (any (names q b state) rule.0.conclusions) rule.2) in
      let l = said.0 in
      other l.place (spoken_named q.kind rule.0 rule.1 l (Memᴰ.append_right rule.0.premises said.1))
      (eqb→eq (box_at q l.place) b (both_left (eqb (box_at q l.place) b) (beq l.state state) said.2)))
