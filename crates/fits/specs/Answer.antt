-- Test's answer: what every case of it says, and its numbers; and what it is to show a part of one of two lent tables.
-- Assumes nothing.
use Rattle.std.specs.Prelude.{◌≡◌, cond, List, ℕ, ◌+◌, Result}
use Rattle.std.specs.Borrow.{Bor}
use Rattle.spec.specs.Refusals.{Said}
use Rattle.spec.specs.Fits.{Verdict, fits, broken, Part, bytes_of}
use Rattle.refusals.specs.declared.Refusal.{Refusal}
use Rattle.refusals.specs.Telling.{said, done_with, broken_at}
use Rattle.fits.specs.declared.Verdict.{Verdict as Tested}
use Rattle.fits.specs.declared.Verdict.TheVariants.{Fits, Broken}

abbrev pub verdict_of : Tested → Verdict
verdict_of Fits = fits
verdict_of (Broken number) = broken number

abbrev pub tested_says : Result Tested Refusal → Said Verdict
tested_says answer = said verdict_of answer

abbrev pub verdict_numbers : Verdict → List ℕ
verdict_numbers fits = done_with 0
verdict_numbers (broken number) = broken_at number

-- the part lies in the table that it names, where it says (a place is a block and an offset in it), and has that table's bytes
pub record Shows (maker depot : Bor (List ℕ)) (part : Part) (r : Bor (List ℕ)) : Type 0 where
  pub table : r.ref_ptr.0 ≡ cond part.depots depot.ref_ptr.0 maker.ref_ptr.0
  pub offset : r.ref_ptr.1 ≡ part.start + cond part.depots depot.ref_ptr.1 maker.ref_ptr.1
  pub bytes : r.now ≡ bytes_of maker.now depot.now part
