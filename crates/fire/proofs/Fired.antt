-- What is fired is made of codes, since a closure is: the equation says it all.
-- Assumes nothing.
use mathlib.Core.Path.{◌≡◌, ◌∙◌, subst⁻¹}
use mathlib.Core.List.{[], ◌∷◌}
use Prim.Native.Nat.{ℕ, zero, suc}
use native.Mathlib.Omega.{arith}
use Rattle.spec.specs.Kinds.{kind_of}
use Rattle.spec.specs.OneRule.{alone}
use Rattle.spec.proofs.Codes.{Codes}
use Rattle.spec.proofs.Closed.{closed_codes}
use Rattle.fire.specs.declared.States.{States}
use Rattle.fire.specs.States.{three, list_of, OnSheet, closed_alone, Fired}
use Rattle.fire.proofs.Agree.{same_kind}

sheet_codes : {x y z : ℕ} → OnSheet x y z → Codes (three x y z)
sheet_codes s zero = omega arith
sheet_codes s (suc zero) = omega arith
sheet_codes s (suc (suc zero)) = omega arith
sheet_codes s (suc (suc (suc b))) = omega arith

pub fired_of : {kind x y z : ℕ} {r : States} → OnSheet x y z → list_of r ≡ closed_alone kind x y z → Fired kind x y z r
fired_of {kind} {x} {y} {z} {r} s e =
    record { closure = e; x_code = codes 0; y_code = codes 1; z_code = codes 2 }
  where
    codes : Codes (list_of r)
    codes = subst⁻¹ Codes e (closed_codes (alone kind ∷ []) (three x y z) (sheet_codes s))

-- what is fired by the number of a kind is fired by each number of that kind
pub fired_like : (kind alike : ℕ) {x y z : ℕ} {r : States} → OnSheet x y z → kind_of kind ≡ kind_of alike →
    list_of r ≡ closed_alone alike x y z → Fired kind x y z r
fired_like kind alike s e f = fired_of s (f ∙ same_kind kind alike s e)
