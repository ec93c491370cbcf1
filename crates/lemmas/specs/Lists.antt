-- Tests over a list, and the numbers below a bound. They compute.
-- Assumes nothing.
use Rattle.std.specs.Prelude.{Bool, true, false, cond, ◌&&◌, ◌||◌, List, [], ◌∷◌, ℕ, zero, suc}

-- every element passes the test
abbrev pub all : {A : Type 0} → (A → Bool) → List A → Bool
all p [] = true
all p (a ∷ l) = p a && all p l

-- some element passes the test
abbrev pub any : {A : Type 0} → (A → Bool) → List A → Bool
any p [] = false
any p (a ∷ l) = p a || any p l

-- the elements that pass the test, in their order
abbrev pub those : {A : Type 0} → (A → Bool) → List A → List A
those p [] = []
those p (a ∷ l) = cond (p a) (a ∷ those p l) (those p l)

-- how many elements pass the test
abbrev pub count : {A : Type 0} → (A → Bool) → List A → ℕ
count p [] = 0
count p (a ∷ l) = cond (p a) (suc (count p l)) (count p l)

-- n numbers upward, i first
abbrev pub up_from : ℕ → ℕ → List ℕ
up_from i zero = []
up_from i (suc n) = i ∷ up_from (suc i) n

-- the numbers below n, upward
abbrev pub upto : ℕ → List ℕ
upto n = up_from 0 n
