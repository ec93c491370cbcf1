-- What Fill says of a call in form, in each of its cases.
-- Assumes nothing.
use mathlib.Core.Path.{◌≡◌, refl}
use mathlib.Core.Logic.{◌↔◌}
use mathlib.Core.Bool.{Bool, true, false, cond, ◌&&◌}
use mathlib.Core.List.{List}
use Prim.Native.Nat.{ℕ, ◌<◌}
use native.Mathlib.Omega.{arith}
use borrow.Author.Tests.{lt-ltb}
use lib.Dec.{T, eqb, ltb, eqb→eq, ltb→lt}
use lib.ListN.{length}
use Rattle.lemmas.specs.Lists.{upto}
use Rattle.lemmas.proofs.Tests.{T_true, true_T, false_T, both_left, both_right, both_of}
use Rattle.lemmas.proofs.Members.{any_member, any_of, upto_member}
use Rattle.spec.specs.Records.{record_count, rules_in}
use Rattle.spec.specs.Facts.{Closure, Clash, holds}
use Rattle.spec.specs.Refusals.{reason, refused, answered}
use Rattle.spec.specs.Fits.{first_broken}
use Rattle.spec.specs.Fill.{closure_of, clashes, boxes_filled, open_count, clash_check, broken_check, fill_judges}
use Rattle.spec.proofs.Accepted.{AcceptedSheet}
use Rattle.spec.proofs.Named.{within_good}
use Rattle.spec.proofs.Codes.{holds_below}
use Rattle.spec.proofs.Closed.{closed_sound, closed_closure}
use Rattle.theory.proofs.States.{sheet_codes}
use Rattle.theory.proofs.Numbered.{rules_good}

-- where 7 is said, by whether 7 and 8 apply
seven_said : (seven eight : Bool) (place k : ℕ) →
    cond seven (refused (reason 7 0)) (cond eight (refused (reason 8 place)) (answered k)) ≡ refused (reason 7 0) → seven ≡ true
seven_said true eight place k e = refl
seven_said false true place k e = let z : ◌≡◌ {A = ℕ} 8 7 = cc in absurd (omega arith)
seven_said false false place k e = let z : ◌≡◌ {A = ℕ} 0 1 = cc in absurd (omega arith)

module _ (maker depot sheet : List ℕ) where
  -- the closure as codes
  abbrev codes : List ℕ
  codes = closure_of maker depot sheet

  -- box b has both
  abbrev has_both : ℕ → Bool
  has_both b = holds codes b false && holds codes b true

  -- a clash that is found on the codes is one
  pub clash_found : T (clashes codes) → (b : ℕ) × Clash (rules_in maker depot) sheet b
  unfolding clashes closure_of
  clash_found t =
      let found = any_member has_both (upto (length codes)) t in
      let b = found.0 in
      let fact = closed_sound (rules_in maker depot) sheet b in
      (b, (fact false (both_left (holds codes b false) _ found.2), fact true (both_right (holds codes b false) _ found.2)))

  module _ (known : AcceptedSheet (length sheet) maker depot sheet) where
    -- the codes hold exactly the closure's facts
    pub codes_exact : (b : ℕ) (state : Bool) → T (holds codes b state) ↔ Closure (rules_in maker depot) sheet b state
    unfolding closure_of
    codes_exact =
        closed_closure (rules_in maker depot) sheet (sheet_codes sheet known.sheet_bytes)
        (within_good (length sheet) (rules_in maker depot) (rules_good maker depot known.tables))

    -- every clash is found
    pub clash_finds : {b : ℕ} → Clash (rules_in maker depot) sheet b → T (clashes codes)
    unfolding clashes
    clash_finds {b} (is_out, is_in) =
        let out' = (codes_exact b false).1 is_out in
        let in' = (codes_exact b true).1 is_in in
        any_of has_both (upto_member (holds_below codes b false out')) (both_of (holds codes b false) (holds codes b true) out' in')

    pub fill_clash : {b : ℕ} → Clash (rules_in maker depot) sheet b → fill_judges maker depot sheet ≡ refused (reason 7 0)
    unfolding fill_judges clash_check
    fill_clash clash = rw (true_T (clashes codes) (clash_finds clash))

    -- 7 is said for a clash alone
    pub fill_seven : fill_judges maker depot sheet ≡ refused (reason 7 0) → (b : ℕ) × Clash (rules_in maker depot) sheet b
    unfolding fill_judges clash_check broken_check
    fill_seven e = clash_found (T_true (seven_said (clashes codes) (broken_check maker depot codes).when _ _ e))

  module _ (none : (b : ℕ) → Clash (rules_in maker depot) sheet b → ⊥) where
    pub no_clash : clashes codes ≡ false
    no_clash = false_T (clashes codes) (λ t. let found = clash_found t in none found.0 found.1)

    -- no box is open and a record is broken
    pub fill_broken : open_count codes ≡ 0 → first_broken maker depot codes < record_count maker depot →
        fill_judges maker depot sheet ≡ refused (reason 8 (first_broken maker depot codes))
    unfolding fill_judges clash_check broken_check
    fill_broken full less = rw (no_clash, full, lt-ltb _ _ less)

    pub fill_filled : (open_count codes ≡ 0 → first_broken maker depot codes < record_count maker depot → ⊥) →
        fill_judges maker depot sheet ≡ answered (boxes_filled sheet codes)
    unfolding fill_judges clash_check broken_check
    fill_filled whole = rw (no_clash, unbroken)
      where
        unbroken : (eqb (open_count codes) 0 && ltb (first_broken maker depot codes) (record_count maker depot)) ≡ false
        unbroken =
            false_T _
            (λ t.
            whole
            (eqb→eq (open_count codes) 0 (both_left (eqb (open_count codes) 0) _ t))
            (ltb→lt (first_broken maker depot codes) (record_count maker depot) (both_right (eqb (open_count codes) 0) _ t)))
