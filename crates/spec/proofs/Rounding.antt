-- One round, and then several: what they add is derived, what they have they keep, and a list that a round does not change is
-- closed under the rules.
-- Assumes nothing.
use mathlib.Core.Path.{◌≡◌, refl, ◌∙◌, subst₂}
use mathlib.Core.Logic.{⊎_elim}
use mathlib.Core.Bool.{Bool, true, false}
use mathlib.Core.List.{List, Memᴰ}
use Prim.Native.Nat.{ℕ, zero, suc, ◌<◌}
use lib.Dec.{T, eqb, eqb→eq, eqb_refl}
use lib.ListN.{length, get_or, length-map}
use Rattle.lemmas.specs.Lists.{all, any, upto}
use Rattle.lemmas.proofs.Tests.{both_left, both_right, both_of, or_cases, or_left, or_right, beq_same, beq_refl}
use Rattle.lemmas.proofs.Members.{all_member, all_of, any_member, any_of, length_upto, get_or_upto}
use Rattle.spec.specs.Kinds.{kind_of}
use Rattle.spec.specs.Rules.{Literal, Rule, rules_of}
use Rattle.spec.specs.Records.{Rec, box_at}
use Rattle.spec.specs.Facts.{FactsOf, HasAll, Closed, Closure, settled, fires, holds}
use Rattle.spec.specs.Rounds.{has, names, gives, follows, code, round, rounds}
use Rattle.spec.proofs.Least.{Inside, closure_cut}
use Rattle.spec.proofs.Named.{Within}
use Rattle.spec.proofs.Codes.{Codes, codes_below, code_small, pick, holds_code, holds_below}

module _ (qs : List Rec) (s : List ℕ) where
  -- a rule that fires in a round derives what it gives
  gives_sound : (q : Rec) → Memᴰ q qs → (r : Rule) → Memᴰ r (rules_of (kind_of q.kind)) →
      (b : ℕ) (state : Bool) → T (gives s b state q r) → Closure qs s b state
  unfolding gives has names
  gives_sound q m r n b state t =
      concluded (any_member (names q b state) r.conclusions (both_right (all (has s q) r.premises) _ t))
    where
      concluded : (l : Literal) × Memᴰ l r.conclusions × T (names q b state l) → Closure qs s b state
      concluded (l, c, same) =
          subst₂ (Closure qs s)
          (eqb→eq (box_at q l.place) b (both_left (eqb (box_at q l.place) b) _ same))
          (beq_same l.state state (both_right (eqb (box_at q l.place) b) _ same))
          (fires q m r n (λ p k. settled (all_member (has s q) (both_left (all (has s q) r.premises) _ t) k)) l c)

  pub follows_sound : (b : ℕ) (state : Bool) → T (follows qs s b state) → Closure qs s b state
  unfolding follows
  follows_sound b state t = ⊎_elim settled (λ u. in_record (any_member _ qs u)) (or_cases (holds s b state) _ t)
    where
      in_record : (q : Rec) × Memᴰ q qs × T (any (gives s b state q) (rules_of (kind_of q.kind))) → Closure qs s b state
      in_record (q, m, u) =
          let found = any_member (gives s b state q) (rules_of (kind_of q.kind)) u in
          gives_sound q m found.0 found.1 b state found.2

  -- the conclusions of a rule whose premises are facts follow
  pub follows_given : (q : Rec) → Memᴰ q qs → (r : Rule) → Memᴰ r (rules_of (kind_of q.kind)) →
      HasAll (FactsOf s) q r.premises → HasAll (λ b state. T (follows qs s b state)) q r.conclusions
  unfolding follows gives has names
  follows_given q m r n premises l c =
      or_right (holds s (box_at q l.place) l.state) _
      (any_of _ m
      (any_of (gives s (box_at q l.place) l.state q) n
      (both_of (all (has s q) r.premises) _
      (all_of (has s q) r.premises premises)
      (any_of (names q (box_at q l.place) l.state) c
      (both_of (eqb (box_at q l.place) (box_at q l.place)) _ (eqb_refl (box_at q l.place)) (beq_refl l.state))))))

  pub round_length : length (round qs s) ≡ length s
  unfolding round
  round_length = length-map (upto (length s)) _ ∙ length_upto (length s)

  round_at : (b : ℕ) → b < length s → get_or (round qs s) b 2 ≡ code (follows qs s b false) (follows qs s b true)
  unfolding round
  round_at b l = get_or_upto (λ c. code (follows qs s c false) (follows qs s c true)) (length s) b 2 l

  pub round_codes : Codes (round qs s)
  round_codes =
      codes_below (round qs s) 2
      (λ b l. rw (round_at b (rw round_length at l)) (code_small (follows qs s b false) (follows qs s b true)))

  -- after a round a box on the list holds what follows
  pub round_holds : (b : ℕ) (state : Bool) → b < length s → holds (round qs s) b state ≡ follows qs s b state
  round_holds b state l =
      holds_code (round qs s) b (follows qs s b false) (follows qs s b true) (round_at b l) state ∙ picked state
    where
      picked : (state : Bool) → pick (follows qs s b false) (follows qs s b true) state ≡ follows qs s b state
      picked true = refl
      picked false = refl

  pub round_sound : Inside (FactsOf (round qs s)) (Closure qs s)
  round_sound b state t =
      let l : b < length s = rw round_length at (holds_below (round qs s) b state t) in
      follows_sound b state (rw (round_holds b state l) at t)

  pub round_keeps : Inside (FactsOf s) (FactsOf (round qs s))
  unfolding follows
  round_keeps b state t = rw (round_holds b state (holds_below s b state t)) (or_left (holds s b state) _ t)

  -- a list that a round does not change is closed
  pub round_rest : Within (length s) qs → round qs s ≡ s → Closed qs (FactsOf s)
  round_rest within same q m r n premises l c =
      rw same at
      (rw (← round_holds (box_at q l.place) l.state (within q m r n l c)) at (follows_given q m r n premises l c))

module _ (qs : List Rec) where
  pub rounds_length : (k : ℕ) (s : List ℕ) → length (rounds qs k s) ≡ length s
  rounds_length zero s = refl
  rounds_length (suc k) s = rounds_length k (round qs s) ∙ round_length qs s

  pub rounds_codes : (k : ℕ) (s : List ℕ) → Codes s → Codes (rounds qs k s)
  rounds_codes zero s small = small
  rounds_codes (suc k) s small = rounds_codes k (round qs s) (round_codes qs s)

  pub rounds_sound : (k : ℕ) (s : List ℕ) → Inside (FactsOf (rounds qs k s)) (Closure qs s)
  rounds_sound zero s b state t = settled t
  rounds_sound (suc k) s b state t =
      closure_cut qs s (round qs s) (round_sound qs s) b state (rounds_sound k (round qs s) b state t)

  pub rounds_keeps : (k : ℕ) (s : List ℕ) → Inside (FactsOf s) (FactsOf (rounds qs k s))
  rounds_keeps zero s b state t = t
  rounds_keeps (suc k) s b state t = rounds_keeps k (round qs s) b state (round_keeps qs s b state t)

  -- at rest no further round changes anything
  pub rounds_rest : (k : ℕ) (s : List ℕ) → round qs s ≡ s → rounds qs k s ≡ s
  rounds_rest zero s same = refl
  rounds_rest (suc k) s same = rw same (rounds_rest k s same)
