-- A number in decimal: its last digit stands after all the others; how long it is.
-- Assumes nothing.
use mathlib.Core.Path.{◌≡◌, refl, sym, ap, ◌∙◌}
use mathlib.Core.List.{List, [], ◌∷◌, ◌++◌}
use Prim.Native.Nat.{ℕ, zero, suc, ◌+◌, ◌/◌, ◌%◌, ◌^◌, ◌≤◌, ◌<◌}
use native.Mathlib.Omega.{arith}
use native.Mathlib.Nat.{pow-suc}
use native.Mathlib.Decide.{dec_lt}
use borrow.Author.Tests.{lt-ltb, le-ltb}
use lib.ListN.{length, length-append}
use Rattle.text.specs.Spelling.{decimal_in, decimal}

in_short : (more n : ℕ) → n < 10 → decimal_in more n ≡ (48 + n) ∷ []
in_short zero n h = refl
in_short (suc more) n h = rw (lt-ltb n 10 h, decimal_in)

in_long : (more n : ℕ) → 10 ≤ n → decimal_in (suc more) n ≡ decimal_in more (n / 10) ++ (48 + n % 10) ∷ []
in_long more n h = rw (le-ltb n 10 h, decimal_in)

-- any bound on the digits that is high enough gives the same digits
in_enough : (a b n : ℕ) → n ≤ a → n ≤ b → decimal_in a n ≡ decimal_in b n
in_enough zero b n h k = sym (in_short b n (omega arith))
in_enough (suc a) zero n h k = in_short (suc a) n (omega arith)
in_enough (suc a) (suc b) n h k = at (dec_lt n 10) (in_enough a b (n / 10))
  where
    at : Dec (n < 10) → (n / 10 ≤ a → n / 10 ≤ b → decimal_in a (n / 10) ≡ decimal_in b (n / 10)) →
        decimal_in (suc a) n ≡ decimal_in (suc b) n
    at (yes l) rest = in_short (suc a) n l ∙ sym (in_short (suc b) n l)
    at (no l) rest =
        in_long a n (omega arith)
        ∙ ap (λ (x : List ℕ). x ++ (48 + n % 10) ∷ []) (rest (omega arith) (omega arith))
        ∙ sym (in_long b n (omega arith))

pub decimal_short : (n : ℕ) → n < 10 → decimal n ≡ (48 + n) ∷ []
unfolding decimal
decimal_short n h = in_short n n h

pub decimal_long : (n : ℕ) → 10 ≤ n → decimal n ≡ decimal (n / 10) ++ (48 + n % 10) ∷ []
unfolding decimal
decimal_long zero h = absurd (omega arith)
decimal_long (suc m) h =
    in_long m (suc m) h
    ∙ ap (λ (x : List ℕ). x ++ (48 + suc m % 10) ∷ []) (in_enough m (suc m / 10) (suc m / 10) (omega arith) (omega arith))

-- a number below 10 to the power 1 + k has at most 1 + k digits
pub decimal_length : (k n : ℕ) → n < 10 ^ suc k → length (decimal n) ≤ suc k
decimal_length zero n h = rw (decimal_short n (omega arith)) (omega arith)
decimal_length (suc k) n h = at (dec_lt n 10) (decimal_length k (n / 10))
  where
    at : Dec (n < 10) → (n / 10 < 10 ^ suc k → length (decimal (n / 10)) ≤ suc k) → length (decimal n) ≤ suc (suc k)
    at (yes l) rest = rw (decimal_short n l) (omega arith)
    at (no l) rest =
        rw (decimal_long n (omega arith))
        (omega (arith, length-append (decimal (n / 10)) ((48 + n % 10) ∷ []), rest (omega (arith, pow-suc 10 (suc k)))))
