-- Boxes offered one after the other: the lowest that a record gives a state.
-- Assumes nothing.
use mathlib.Core.Path.{◌≡◌, refl, sym, ◌∙◌}
use mathlib.Core.Bool.{Bool, true, false, true≢false, ◌&&◌, ◌||◌}
use mathlib.Core.List.{List}
use Prim.Native.Nat.{ℕ, suc, ◌+◌, ◌%◌, ◌≤◌, ◌<◌}
use native.Mathlib.Omega.{arith}
use native.Mathlib.Decide.{ℕ_discrete, dec_lt}
use borrow.Author.Count.{below_more}
use borrow.Author.Tests.{eq-eqb, ne_eqb}
use lib.Dec.{eqb}
use Rattle.std.proofs.lemmas.Bool.Decides.{nat_tests}
use lib.ListN.{get_or}
use Rattle.std.specs.Prelude.{Option, Some, None}
use Rattle.lemmas.specs.Lowest.{lowest}
use Rattle.lemmas.proofs.Lowest.{lowest_at, lowest_none, lowest_found, lowest_below}
use Rattle.spec.specs.Kinds.{Place, X, Y, Z}
use Rattle.spec.specs.Records.{Rec, box_at, bad, is_rule, record_at}
use Rattle.spec.specs.Rounds.{code}
use Rattle.theory.specs.Steps.{z_missing}
use Rattle.engine.specs.Moves.{Cells}
use Rattle.engine.proofs.Settled.{cells_read}
use Rattle.whylists.specs.Lines.{given_by}
use Rattle.why.specs.Next.{offers, Offered, LowestGiven, NoneGiven}
use Rattle.why.specs.declared.next.Next.{Next}
use Rattle.theory.proofs.Embedding.{states_at_lem}
use Rattle.fire.specs.States.{counted, Rests}
use Rattle.why.proofs.Asked.{given_code, asked_passed, asked_none, looked, z_counted_lem, at_place, names}
use Rattle.why.proofs.Resting.{rest_x, rest_y, rest_z}
use Rattle.theory.proofs.Places.{Names, good_x, good_y}

-- the code of two facts is open just when neither is there
code_none : (out in' : Bool) → code out in' ≡ 2 → (out || in') ≡ false
unfolding code
code_none true true e = absurd (omega (arith, e))
code_none true false e = absurd (omega (arith, e))
code_none false true e = absurd (omega (arith, e))
code_none false false e = refl

code_some : (out in' : Bool) → (code out in' ≡ 2 → ⊥) → (out || in') ≡ true
unfolding code
code_some true in' e = refl
code_some false true e = refl
code_some false false e = absurd (e refl)

module _ (s : List ℕ) (q : Rec) (c : ℕ) where
  pub offers_settled : (get_or s c 2 ≡ 2 → ⊥) → offers s q c ≡ false
  unfolding offers
  offers_settled e = rw (ne_eqb (get_or s c 2) 2 e)

  pub offers_none : given_code q s c ≡ 2 → offers s q c ≡ false
  unfolding offers
  offers_none e = rw (code_none (given_by s c false q) (given_by s c true q) e) (and_false (eqb (get_or s c 2) 2))
    where
      and_false : (b : Bool) → (b && false) ≡ false
      and_false true = refl
      and_false false = refl

  pub offers_some : get_or s c 2 ≡ 2 → (given_code q s c ≡ 2 → ⊥) → offers s q c ≡ true
  unfolding offers
  offers_some is e = rw (eq-eqb (get_or s c 2) 2 is, code_some (given_by s c false q) (given_by s c true q) e)

-- what the tests of an offer tell
pub ruleset offer_tests = (offers_settled, offers_none, offers_some, cells_read, nat_tests)

-- the lowest of the boxes offered so far
pub record Low (s : List ℕ) (q : Rec) (below r : ℕ) : Type 0 where
  pub within : r ≤ below
  pub found : r < below → offers s q r ≡ true

module _ {s : List ℕ} {q : Rec} {below : ℕ} where
  pub low_start : Low s q below below
  low_start = record { within = omega arith; found = λ h. absurd (omega arith) }

  pub low_next : {r c r' : ℕ} → Low s q below r → Offered s q c r r' → Low s q below r'
  low_next {r} {c} {r'} low offered =
      record { within = omega (arith, low.within, offered.within); found = λ h. at h (dec_lt r' r) }
    where
      at : r' < below → Dec (r' < r) → offers s q r' ≡ true
      at h (yes l) = (offered.taken l).1
      at h (no l) =
          let same : r' ≡ r = omega (arith, offered.within) in
          rw same (low.found (omega arith))

  -- no other box is offered
  pub low_lowest : {r : ℕ} → Low s q below r → ((c : ℕ) → c < r → offers s q c ≡ false) → r ≡ lowest (offers s q) below
  low_lowest {r} low none = at (dec_lt r below)
    where
      at : Dec (r < below) → r ≡ lowest (offers s q) below
      at (yes h) = sym (lowest_at (offers s q) below r h (low.found h) none)
      at (no h) =
          let same : r ≡ below = omega (arith, low.within) in
          same ∙ sym (lowest_none (offers s q) below (λ c l. none c (omega arith)))

-- a box at none of the record's places
module _ (q : Rec) {s : List ℕ} (good : bad 256 q ≡ false) (cells : Cells s) where
  pub offers_other : (c : ℕ) → (c ≡ q.x → ⊥) → (c ≡ q.y → ⊥) → (z_missing q ≡ false → c ≡ q.z → ⊥) → offers s q c ≡ false
  offers_other c ¬x ¬y ¬z = at (is_rule q) refl
    where
      at : (counts : Bool) → is_rule q ≡ counts → offers s q c ≡ false
      at true e = offers_none s q c (asked_none q good cells e c ¬x ¬y ¬z)
      at false e = offers_none s q c (asked_passed q good cells e c)

  -- which of its boxes have been offered
  pub offers_all : {r : ℕ} → (q.x < r → offers s q q.x ≡ false) → (q.y < r → offers s q q.y ≡ false) →
      (z_missing q ≡ false → q.z < r → offers s q q.z ≡ false) → (c : ℕ) → c < r → offers s q c ≡ false
  offers_all {r} x y z c h = at (ℕ_discrete c q.x) (ℕ_discrete c q.y) (ℕ_discrete c q.z) (z_missing q) refl
    where
      at : Dec (c ≡ q.x) → Dec (c ≡ q.y) → Dec (c ≡ q.z) → (missing : Bool) → z_missing q ≡ missing → offers s q c ≡ false
      at (yes e) d f m is = rw e (x (omega (arith, e)))
      at (no ¬x) (yes e) f m is = rw e (y (omega (arith, e)))
      at (no ¬x) (no ¬y) (yes e) false is = rw e (z is (omega (arith, e)))
      at (no ¬x) (no ¬y) (yes e) true is = offers_other c ¬x ¬y (λ there. absurd (true≢false (sym is ∙ there)))
      at (no ¬x) (no ¬y) (no ¬z) m is = offers_other c ¬x ¬y (λ there. ¬z)

-- a record at rest offers none
module _ (q : Rec) {s : List ℕ} (good : bad 256 q ≡ false) (cells : Cells s)
    (rests : Rests q.kind (get_or s q.x 0) (get_or s q.y 0) (get_or s (q.z % 256) 0)) where
  x_read : get_or s q.x 0 ≡ get_or s q.x 2
  x_read = cells_read cells q.x (good_x 256 q good)

  y_read : get_or s q.y 0 ≡ get_or s q.y 2
  y_read = cells_read cells q.y (good_y 256 q good)

  -- at a place that is named and open
  rest_code : is_rule q ≡ true → (p : Place) → Names q p → get_or s (box_at q p) 2 ≡ 2 → given_code q s (box_at q p) ≡ 2
  unfolding box_at
  rest_code counts X m e =
      at_place q good cells counts X m
      ∙ (rw (x_read, y_read, z_counted_lem q good cells) at (rest_x q.kind (looked q good cells) rests (x_read ∙ e)))
  rest_code counts Y m e =
      at_place q good cells counts Y m
      ∙ (rw (x_read, y_read, z_counted_lem q good cells) at (rest_y q.kind (looked q good cells) rests (y_read ∙ e)))
  rest_code counts Z m e =
      let opened : counted q.kind (get_or s (q.z % 256) 0) ≡ 2 = z_counted_lem q good cells ∙ states_at_lem q s 256 good Z m ∙ e in
      at_place q good cells counts Z m
      ∙ (rw (x_read, y_read, z_counted_lem q good cells) at (rest_z q.kind (looked q good cells) rests opened))

  at_rest : is_rule q ≡ true → (p : Place) → Names q p → offers s q (box_at q p) ≡ false
  at_rest counts p m = at (ℕ_discrete (get_or s (box_at q p) 2) 2)
    where
      at : Dec (get_or s (box_at q p) 2 ≡ 2) → offers s q (box_at q p) ≡ false
      at (yes e) = offers_none s q (box_at q p) (rest_code counts p m e)
      at (no e) = offers_settled s q (box_at q p) e

  pub offers_rest : (c : ℕ) → offers s q c ≡ false
  unfolding box_at
  offers_rest c = at (is_rule q) refl
    where
      at : (counts : Bool) → is_rule q ≡ counts → offers s q c ≡ false
      at false e = offers_none s q c (asked_passed q good cells e c)
      at true e =
          let named = names q good cells e in
          offers_all q good cells {r = suc c} (λ h. at_rest e X (named X tt)) (λ h. at_rest e Y (named Y tt))
          (λ there h. at_rest e Z (named Z (rw there tt))) c (omega arith)

-- the search has come to record i: `below` is the box of the next line so far, or n
abbrev pub SoFar : (maker depot s : List ℕ) (n i below : ℕ) → Option Next → Type 0
SoFar maker depot s n i below None = (below ≡ n) × NoneGiven maker depot s n i
SoFar maker depot s n i below (Some next) = (below ≡ next.b) × LowestGiven maker depot s n i next.b next.number

module _ (maker depot s : List ℕ) (n i below : ℕ) where
  none_below : (next : Option Next) → SoFar maker depot s n i below next → (c : ℕ) → c < below → (j : ℕ) → j < i →
      offers s (record_at maker depot j) c ≡ false
  none_below None so c h = so.1 c (omega arith)
  none_below (Some next) so c h = so.1.none c (omega arith)

  within : (next : Option Next) → SoFar maker depot s n i below next → below ≤ n
  within None so = omega arith
  within (Some next) so = omega arith

  module _ (next : Option Next) (so : SoFar maker depot s n i below next) (c : ℕ)
      (e : c ≡ lowest (offers s (record_at maker depot i)) below) where
    -- record i gives a lower box a state
    pub so_lower : c < below → SoFar maker depot s n (i + 1) c (Some (record { b = c; number = i }))
    so_lower h =
        let found = lowest_found (offers s (record_at maker depot i)) below (rw (← e) h) in (
          refl,
          record {
            within = omega (arith, within next so);
            none = λ d l. below_more _ i (none_below next so d (omega arith)) (found.1 d (rw (← e) l));
            counted = omega arith;
            given = rw e found.0;
            lowest = none_below next so c h;
          },
        )

    -- it gives none below
    pub so_kept : below ≤ c → SoFar maker depot s n (i + 1) below next
    so_kept h = at next so
      where
        none_more : (d : ℕ) → d < below → (j : ℕ) → j < i + 1 → offers s (record_at maker depot j) d ≡ false
        none_more d l =
            below_more _ i (none_below next so d l) (lowest_below (offers s (record_at maker depot i)) below d (rw (← e) h) l)

        at : (next : Option Next) → SoFar maker depot s n i below next → SoFar maker depot s n (i + 1) below next
        at None so = (so.0, λ d l. none_more d (omega arith))
        at (Some next) so = (
          so.0,
          record {
            within = so.1.within;
            none = λ d l. none_more d (omega arith);
            counted = omega arith;
            given = so.1.given;
            lowest = so.1.lowest;
          },
        )
