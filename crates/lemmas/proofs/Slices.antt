-- The front of a list without its own front.
-- Assumes nothing.
use mathlib.Core.Path.{◌≡◌, sym, ◌∙◌, ap}
use mathlib.Core.List.{List, [], ◌∷◌}
use Prim.Native.Nat.{ℕ, zero, suc, ◌-◌}
use native.Mathlib.Omega.{arith}
use lib.ListN.{take, drop}
use lib.Seq.{take-nil}

pub drop_take : {A : Type 0} (k n : ℕ) (l : List A) → drop k (take n l) ≡ take (n - k) (drop k l)
drop_take zero n l = let all : n ≡ n - 0 = omega arith in ap (λ (j : ℕ). take j l) all
drop_take (suc k) zero l = let none : 0 ≡ 0 - suc k = omega arith in ap (λ (j : ℕ). take j (drop (suc k) l)) none
drop_take (suc k) (suc n) [] = sym (take-nil (suc n - suc k))
drop_take (suc k) (suc n) (a ∷ l) =
    let less : n - k ≡ suc n - suc k = omega arith in drop_take k n l ∙ ap (λ (j : ℕ). take j (drop k l)) less
