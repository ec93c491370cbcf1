-- Filling keeps the kits: every fact that the rules force is true of every kit. So a clash leaves none, and a sheet filled with
-- forced facts has the kits that it had.
-- Assumes nothing.
use mathlib.Core.Path.{◌≡◌, sym, ap, ◌∙◌}
use mathlib.Core.Logic.Iff
use mathlib.Core.Logic.{◌↔◌, ◌⊎◌, inl, inr}
use mathlib.Core.Bool.{Bool, true, false, false≢true}
use mathlib.Core.List.{List, Memᴰ}
use Prim.Native.Nat.{ℕ, ◌≤◌, ◌<◌}
use native.Mathlib.Omega.{arith}
use native.Mathlib.Decide.{dec_le, dec_lt}
use borrow.Author.Tests.{not-false}
use lib.Dec.{T}
use lib.ListN.{get_or}
use Rattle.lemmas.proofs.Tests.{T_true}
use Rattle.spec.specs.Kinds.{Place, kind_of, meaning}
use Rattle.spec.specs.Records.{Rec, box_at}
use Rattle.spec.specs.Facts.{Facts, FactsOf, Closed, Closure, Clash, holds}
use Rattle.spec.specs.Fits.{is_in, breaks}
use Rattle.spec.proofs.Least.{Inside, closure_least}
use Rattle.spec.proofs.Named.{Within, closure_below}
use Rattle.spec.proofs.Sound.{rules_sound}
use Rattle.kits.specs.Order.{AnswerTo}
use Rattle.kits.specs.Kit.{OpenFrom, Kit, Wanted}
use Rattle.kits.proofs.Answers.{answer_same}
use Rattle.kits.proofs.Sheets.{wanted_same}
use Rattle.kits.proofs.States.{byte, byte_small, byte_in, settled_byte, byte_holds, holds_byte, sheet_byte}

-- the facts of a full list: each box's state
abbrev pub TrueOf : List ℕ → Facts
TrueOf l b state = is_in l b ≡ state

-- a list that fits is closed under the rules
fits_closed : (qs : List Rec) (l : List ℕ) → ((q : Rec) → Memᴰ q qs → breaks l q ≡ false) → Closed qs (TrueOf l)
unfolding breaks
fits_closed qs l fits q m r k premises =
    let states : Place → Bool = λ p. is_in l (box_at q p) in
    rules_sound (kind_of q.kind) r k states (T_true (not-false (meaning (kind_of q.kind) states) (fits q m))) premises

-- where nothing is settled at n or past it, every fact is of a box below n
open_below : (n : ℕ) (s : List ℕ) → OpenFrom n s → (b : ℕ) (state : Bool) → T (holds s b state) → b < n
open_below n s past b state t = at (dec_lt b n) (holds_byte s b state t)
  where
    at : Dec (b < n) → (get_or s b 2 ≡ byte state) ⊎ (get_or s b 2 ≡ 3) → b < n
    at (yes i) e = i
    at (no i) (inl e) = absurd (omega (arith, byte_small state, past b (omega arith)))
    at (no i) (inr e) = absurd (omega (arith, past b (omega arith)))

module _ (qs : List Rec) (n : ℕ) (s l : List ℕ) (past : OpenFrom n s) (kit : Kit qs n s l) where
  kept : Inside (FactsOf s) (TrueOf l)
  kept b state t = at (open_below n s past b state t) (holds_byte s b state t)
    where
      at : b < n → (get_or s b 2 ≡ byte state) ⊎ (get_or s b 2 ≡ 3) → is_in l b ≡ state
      at i (inl e) = byte_in l b state (kit.keeps b i (λ z. omega (arith, byte_small state)) ∙ e)
      at i (inr e) = absurd (omega (arith, kit.full.bits b i, kit.keeps b i (λ z. omega arith)))

  -- every kit has every fact of the closure
  pub kit_forced : Inside (Closure qs s) (TrueOf l)
  kit_forced = closure_least qs s (TrueOf l) kept (fits_closed qs l kit.fits)

  -- so a clash leaves no kit
  pub kit_no_clash : (b : ℕ) → Clash qs s b → ⊥
  kit_no_clash b c = false≢true (sym (kit_forced b false c.0) ∙ kit_forced b true c.1)

-- as an answer: on a clash there is none
pub clash_answer : (qs : List Rec) (n : ℕ) (s : List ℕ) → OpenFrom n s → (b : ℕ) → Clash qs s b →
    (after : Bool) (given x : List ℕ) → AnswerTo (Wanted qs n s after given) false x
clash_answer qs n s past b clash after given x k w = kit_no_clash qs n s k past w.kit b clash

-- t is s with forced facts added
module _ (qs : List Rec) (n : ℕ) (s t : List ℕ) (past : OpenFrom n s)
    (sheet_s : (b : ℕ) → get_or s b 2 ≤ 2) (sheet_t : (b : ℕ) → get_or t b 2 ≤ 2)
    (keeps : Inside (FactsOf s) (FactsOf t)) (derived : Inside (FactsOf t) (Closure qs s)) where
  filled_keeps : (l : List ℕ) → Kit qs n s l → (b : ℕ) → b < n → (get_or t b 2 ≡ 2 → ⊥) → get_or l b 2 ≡ get_or t b 2
  filled_keeps l kit b i settled =
      let e = settled_byte t b (omega (arith, sheet_t b)) in
      let same = kit_forced qs n s l past kit b (is_in t b) (derived b (is_in t b) (byte_holds t b (is_in t b) e)) in
      settled_byte l b (kit.full.bits b i) ∙ ap byte same ∙ sym e

  unfilled_keeps : (l : List ℕ) → Kit qs n t l → (b : ℕ) → b < n → (get_or s b 2 ≡ 2 → ⊥) → get_or l b 2 ≡ get_or s b 2
  unfilled_keeps l kit b i settled =
      let e = settled_byte s b (omega (arith, sheet_s b)) in
      let same = sheet_byte t b (is_in s b) (sheet_t b) (keeps b (is_in s b) (byte_holds s b (is_in s b) e)) in
      kit.keeps b i (λ z. omega (arith, byte_small (is_in s b))) ∙ same ∙ sym e

  -- the filled sheet has the same kits
  pub kit_filled : (l : List ℕ) → Kit qs n s l ↔ Kit qs n t l
  kit_filled l = (
    λ kit. record { full = kit.full; keeps = filled_keeps l kit; fits = kit.fits },
    λ kit. record { full = kit.full; keeps = unfilled_keeps l kit; fits = kit.fits },
  )

  pub filled_answer : (after : Bool) (given : List ℕ) (found : Bool) (l : List ℕ) →
      AnswerTo (Wanted qs n t after given) found l → AnswerTo (Wanted qs n s after given) found l
  filled_answer after given = answer_same (λ k. Iff.symm (wanted_same kit_filled after given k))

  -- and nothing at n or past it is settled, if no rule speaks of such a box
  pub filled_past : Within n qs → OpenFrom n t
  filled_past within b h = at (dec_le (get_or t b 2) 1)
    where
      at : Dec (get_or t b 2 ≤ 1) → get_or t b 2 ≡ 2
      at (no j) = omega (arith, sheet_t b)
      at (yes j) =
          let fact = byte_holds t b (is_in t b) (settled_byte t b j) in
          absurd (omega (arith, closure_below qs n s within (open_below n s past) b (is_in t b) (derived b (is_in t b) fact)))
