-- Tests as types: the parts of `&&` and `||`, and what a test's value says.
-- Assumes nothing.
use mathlib.Core.Path.{◌≡◌, refl}
use mathlib.Core.Logic.{◌⊎◌, inl, inr}
use mathlib.Core.Bool.{Bool, true≢false, true, false, ◌&&◌, ◌||◌, beq}
use lib.Dec.{T}

pub T_true : {b : Bool} → b ≡ true → T b
T_true e = rw e tt

pub true_T : (b : Bool) → T b → b ≡ true
true_T true t = refl
true_T false t = absurd t

pub false_T : (b : Bool) → (T b → ⊥) → b ≡ false
false_T true f = absurd (f tt)
false_T false f = refl

pub both_left : (a b : Bool) → T (a && b) → T a
both_left true b t = tt
both_left false b t = t

pub both_right : (a b : Bool) → T (a && b) → T b
both_right true b t = t
both_right false b t = absurd t

pub both_of : (a b : Bool) → T a → T b → T (a && b)
both_of true b t u = u
both_of false b t u = t

pub or_cases : (a b : Bool) → T (a || b) → T a ⊎ T b
or_cases true b t = inl tt
or_cases false b t = inr t

pub or_left : (a b : Bool) → T a → T (a || b)
or_left true b t = tt
or_left false b t = absurd t

pub or_right : (a b : Bool) → T b → T (a || b)
or_right true b t = tt
or_right false b t = t

-- both sides of an `||` that is false are
pub or_false_left : (a b : Bool) → (a || b) ≡ false → a ≡ false
or_false_left true b e = e
or_false_left false b e = refl

pub or_false_right : (a b : Bool) → (a || b) ≡ false → b ≡ false
or_false_right true b e = absurd (true≢false e)
or_false_right false b e = e

pub beq_same : (a b : Bool) → T (beq a b) → a ≡ b
beq_same true true t = refl
beq_same true false t = absurd t
beq_same false true t = absurd t
beq_same false false t = refl

pub beq_refl : (a : Bool) → T (beq a a)
beq_refl true = tt
beq_refl false = tt

-- two tests that pass together are one
pub T_same : (a b : Bool) → (T a → T b) → (T b → T a) → a ≡ b
T_same true true to from = refl
T_same true false to from = absurd (to tt)
T_same false true to from = absurd (from tt)
T_same false false to from = refl
