-- A count over the numbers below a bound, one number more, where a test is counted as a number.
-- Assumes nothing.
use Rattle.std.proofs.Common.{◌≡◌, ℕ, ◌+◌, ◌≤◌, Bool, true, false, arith}
use mir.Val.{bool_byte}
use Rattle.lemmas.specs.Lists.{count, upto}
use Rattle.lemmas.proofs.Indexed.{count_upto_yes, count_upto_no}

pub count_next : (p : ℕ → Bool) (b : ℕ) (is : Bool) → p b ≡ is → count p (upto (b + 1)) ≡ count p (upto b) + bool_byte is
count_next p b true e = count_upto_yes p b e
count_next p b false e = omega (arith, count_upto_no p b e)

pub at_most_one : (is : Bool) → bool_byte is ≤ 1
at_most_one true = omega arith
at_most_one false = omega arith
