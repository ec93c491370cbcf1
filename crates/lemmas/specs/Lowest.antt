-- The lowest number that passes a test.
-- Assumes nothing.
use Rattle.std.specs.Prelude.{Bool, cond, ltb, ℕ, zero, suc, Option, Some, None}

-- the lowest number below n that passes the test, and n where none does
unfoldable pub lowest : (ℕ → Bool) → ℕ → ℕ
lowest p zero = zero
lowest p (suc n) = cond (p zero) zero (suc (lowest (λ i. p (suc i)) n))

-- a number that is found below n, and none for n
abbrev pub if_below : ℕ → ℕ → Option ℕ
if_below k n = cond (ltb k n) (Some k) None

-- the lowest number below n that passes the test, where one does
abbrev pub lowest_if_any : (ℕ → Bool) → ℕ → Option ℕ
lowest_if_any p n = if_below (lowest p n) n
