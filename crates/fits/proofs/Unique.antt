-- Two results that a promise of this crate allows are equal, and the numbers lose nothing of an answer. Of two parts this says the
-- table, the place in it and the bytes: a reference has besides only the name under which the proof follows it, which no program
-- can see.
-- Assumes nothing.
use mathlib.Core.Path.{◌≡◌, refl, sym, ◌∙◌}
use mathlib.Core.List.{List}
use Prim.Native.Nat.{ℕ}
use native.Mathlib.Omega.{arith}
use denote.Ref.{Bor}
use Rattle.std.specs.Prelude.{Result}
use Rattle.spec.specs.Refusals.{Said}
use Rattle.spec.specs.Fits.{Verdict, fits, broken, Part}
use Rattle.refusals.specs.declared.Refusal.{Refusal}
use Rattle.refusals.specs.Telling.{numbers_of}
use Rattle.refusals.proofs.Back.{said_unique}
use Rattle.refusals.proofs.Told.{OwnCodes, told_unique}
use Rattle.fits.specs.declared.Verdict.{Verdict as Tested}
use Rattle.fits.specs.declared.Verdict.TheVariants.{Fits, Broken}
use Rattle.fits.specs.Answer.{verdict_of, tested_says, verdict_numbers, Shows}

verdict_for : Verdict → Tested
verdict_for fits = Fits
verdict_for (broken number) = Broken number

verdict_back : (v : Tested) → verdict_for (verdict_of v) ≡ v
unfolding verdict_for
verdict_back Fits = refl
verdict_back (Broken number) = refl

pub tested_unique : (r s : Result Tested Refusal) → tested_says r ≡ tested_says s → r ≡ s
tested_unique = said_unique verdict_of verdict_for verdict_back

pub verdict_codes : OwnCodes verdict_numbers
verdict_codes fits e = omega arith
verdict_codes (broken number) e = omega arith

verdict_apart : (a b : Verdict) → verdict_numbers a ≡ verdict_numbers b → a ≡ b
verdict_apart fits fits e = refl
verdict_apart fits (broken m) e = cc
verdict_apart (broken n) fits e = cc
verdict_apart (broken n) (broken m) e = cc

pub tested_told : (s t : Said Verdict) → numbers_of verdict_numbers s ≡ numbers_of verdict_numbers t → s ≡ t
tested_told = told_unique verdict_numbers verdict_codes verdict_apart

pub shows_unique : (maker depot : Bor (List ℕ)) (part : Part) (r s : Bor (List ℕ)) → Shows maker depot part r → Shows maker depot part s →
    (r.ref_ptr.0 ≡ s.ref_ptr.0) × (r.ref_ptr.1 ≡ s.ref_ptr.1) × (r.now ≡ s.now)
shows_unique maker depot part r s p q = (p.table ∙ sym q.table, p.offset ∙ sym q.offset, p.bytes ∙ sym q.bytes)
