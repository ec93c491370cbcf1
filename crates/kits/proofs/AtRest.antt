-- A sheet with every box settled and every rule at rest: it fits, and is its own only kit. That its rows make the truth tables
-- true is one test, computed over the kinds and the eight rows of states.
-- Assumes nothing.
use mathlib.Core.Path.{◌≡◌, refl, sym, ap, ◌∙◌}
use mathlib.Core.Logic.{inl}
use mathlib.Core.Bool.{Bool, true, false, not, ◌||◌}
use mathlib.Core.List.Memᴰ
use mathlib.Core.List.{List, [], ◌∷◌, Memᴰ}
use Prim.Native.Nat.{ℕ, ◌≤◌, ◌<◌}
use native.Mathlib.Omega.{arith}
use native.Mathlib.Decide.{dec_le}
use lib.Dec.{T, eqb}
use lib.ListN.{length, get_or, take, get_or-eq_default}
use lib.Seq.{length-take-le, get_or-take, ext_get_or}
use Rattle.lemmas.specs.Lists.{all}
use Rattle.lemmas.proofs.Tests.{true_T}
use Rattle.lemmas.proofs.Implies.{implies_at, implies_of}
use Rattle.lemmas.proofs.Members.{all_member, all_of}
use Rattle.spec.specs.Kinds.{Kind, kinds, Place, kind_of, meaning}
use Rattle.spec.specs.Rules.{Literal, Rule, rules_of}
use Rattle.spec.specs.SameRule.{same_place}
use Rattle.spec.specs.Records.{Rec, box_at, bad}
use Rattle.spec.specs.Facts.{FactsOf, Closed, holds}
use Rattle.spec.specs.Minimal.{states, put, rows, agrees}
use Rattle.spec.specs.Fits.{is_in, breaks}
use Rattle.spec.proofs.EveryKind.{kind_all}
use Rattle.spec.proofs.Tuples.{tuple_listed, agrees_at, agrees_of}
use Rattle.spec.proofs.EveryKind.{places, place_listed}
use Rattle.spec.proofs.Named.{Good, within_good, premises_good}
use Rattle.kits.specs.Order.{AnswerTo}
use Rattle.kits.specs.Kit.{SettledBelow, Kit, After, Wanted}
use Rattle.kits.proofs.Order.{before_irrefl}
use Rattle.kits.proofs.Sheets.{kit_settled}
use Rattle.kits.proofs.States.{byte, byte_in, settled_byte, byte_holds, sheet_byte, in_read}

-- what the rule concludes is true of these states where its premises are
abbrev fired : (Place → Bool) → Rule → Bool
fired v r = not (agrees v r.premises) || agrees v r.conclusions

-- a row at rest under the kind's rules makes its truth table true
abbrev rest_true : Kind → (Place → Bool) → Bool
rest_true k v = not (all (fired v) (rules_of k)) || meaning k v

rest_test : T (all (λ k. all (rest_true k) (rows places)) kinds)
unfolding rows states put same_place agrees meaning rules_of
rest_test = tt

-- the states v are at rest under the rules of kind k
abbrev RestOf : Kind → (Place → Bool) → Type 0
RestOf k v =
    (r : Rule) → Memᴰ r (rules_of k) → ((l : Literal) → Memᴰ l r.premises → v l.place ≡ l.state) →
    (l : Literal) → Memᴰ l r.conclusions → v l.place ≡ l.state

rest_true_lem : (k : Kind) (v : Place → Bool) → RestOf k v → T (meaning k v)
rest_true_lem k v rest =
    implies_at (all (fired v) (rules_of k)) (meaning k v)
    (all_member (rest_true k)
    (kind_all (λ k. all (rest_true k) (rows places)) rest_test k)
    (tuple_listed places v (λ q. inl (place_listed q))))
    (all_of (fired v) (rules_of k)
    (λ r m.
    implies_of (agrees v r.premises) (agrees v r.conclusions)
    (λ t. agrees_of v r.conclusions (rest r m (agrees_at v r.premises t)))))

-- every box is settled, so the sheet has them all
settled_long : (n : ℕ) (t : List ℕ) → SettledBelow n t → n ≤ length t
settled_long n t settled = at (dec_le n (length t))
  where
    at : Dec (n ≤ length t) → n ≤ length t
    at (yes h) = h
    at (no h) = absurd (omega (arith, settled (length t) (omega arith), get_or-eq_default t 2 {n = length t} (omega arith)))

module _ (n : ℕ) (t : List ℕ) (settled : SettledBelow n t) (sheet : (b : ℕ) → get_or t b 2 ≤ 2) where
  take_in : (b : ℕ) → b < n → is_in (take n t) b ≡ is_in t b
  take_in b i = in_read (take n t) b ∙ ap (λ (a : ℕ). eqb a 1) (get_or-take n t b 2 i) ∙ sym (in_read t b)

  -- below n a fact of t is what the list says of the box
  in_holds : (b : ℕ) (state : Bool) → b < n → is_in (take n t) b ≡ state → T (holds t b state)
  in_holds b state i e = byte_holds t b state (settled_byte t b (settled b i) ∙ ap byte (sym (take_in b i) ∙ e))

  holds_in : (b : ℕ) (state : Bool) → b < n → T (holds t b state) → is_in (take n t) b ≡ state
  holds_in b state i h = take_in b i ∙ byte_in t b state (sheet_byte t b state (sheet b) h)

  rest_fits : (q : Rec) → bad n q ≡ false → Closed (q ∷ []) (FactsOf t) → breaks (take n t) q ≡ false
  unfolding breaks
  rest_fits q good rest = ap not (true_T (meaning (kind_of q.kind) v) (rest_true_lem (kind_of q.kind) v at_rest))
    where
      v : Place → Bool
      v p = is_in (take n t) (box_at q p)

      alone : Good n (q ∷ [])
      alone q' m = rw (Memᴰ.eq_of_singleton m) good

      at_rest : RestOf (kind_of q.kind) v
      at_rest r m premises l c =
          holds_in (box_at q l.place) l.state (within_good n (q ∷ []) alone q (Memᴰ.head refl) r m l c)
          (rest q (Memᴰ.head refl) r m
          (λ p k. in_holds (box_at q p.place) p.state (premises_good n (q ∷ []) alone q (Memᴰ.head refl) r m p k) (premises p k))
          l c)

-- where every box is settled there is no other kit than the sheet's first n boxes
pub settled_only : (qs : List Rec) (n : ℕ) (t : List ℕ) → SettledBelow n t → (l : List ℕ) → Kit qs n t l → l ≡ take n t
settled_only qs n t settled l kit =
    ext_get_or 2 l (take n t)
    (kit.full.boxes ∙ sym (length-take-le n t (settled_long n t settled)))
    (λ b h. same b (omega (arith, kit.full.boxes)))
  where
    same : (b : ℕ) → b < n → get_or l b 2 ≡ get_or (take n t) b 2
    same b i = kit_settled kit b i (settled b i) ∙ sym (get_or-take n t b 2 i)

-- every rule is at rest
module _ (qs : List Rec) (n : ℕ) (t : List ℕ) (settled : SettledBelow n t) (sheet : (b : ℕ) → get_or t b 2 ≤ 2)
    (good : Good n qs) (rest : (q : Rec) → Memᴰ q qs → Closed (q ∷ []) (FactsOf t)) where
  pub rest_kit : Kit qs n t (take n t)
  rest_kit =
      record {
        full =
            record {
              boxes = length-take-le n t (settled_long n t settled);
              bits = λ b i. rw (get_or-take n t b 2 i) (settled b i);
            };
        keeps = λ b i e. get_or-take n t b 2 i;
        fits = λ q m. rest_fits n t settled sheet q (good q m) (rest q m);
      }

  pub rest_answer : (after : Bool) (given : List ℕ) → After after given (take n t) → AnswerTo (Wanted qs n t after given) true (take n t)
  rest_answer after given later =
      record {
        has = record { kit = rest_kit; later = later };
        first = λ k w. rw (settled_only qs n t settled k w.kit) (before_irrefl (take n t));
      }
