-- What the law of `Through.antt` asks of a function: that its code hands its parameters on.
--     calls_with      what `hands` (`Straight.antt`) read off the body is a call of n with the values vs
--     Hands           run on values, the function's MIR calls n, and hands it its own parameters, each in its place
-- Assumes `Logic`.
use mathlib.Core.Path.{◌≡◌}
use mathlib.Core.Bool.{Bool, true, false, ◌&&◌}
use mathlib.Core.Option.{Option, none, some}
use mathlib.Core.List.{List, [], ◌∷◌}
use Prim.Native.Nat.{ℕ}
use seplogic.Ra.Ura.{Ura}
use lib.Dec.{T as Holds}
use mir.Syntax.{Callee, Ty, Local, local, Body, Fn}
use mir.Val.{Val, has_ty}
use types.Logic.{Logic}
use Rattle.tables.proofs.Straight.{entry, Called, hands}

abbrev pub tys : List Local → List Ty
tys [] = []
tys (local τ h ∷ ls) = τ ∷ tys ls

-- the values are of the first of these types
abbrev pub typed : List Ty → List Val → Bool
typed τs [] = true
typed [] (v ∷ vs) = false
typed (τ ∷ τs) (v ∷ vs) = has_ty τ v && typed τs vs

module _ {M : Type 1} {𝓤 : Ura M} (𝓛 : Logic 𝓤) where
  abbrev pub calls_with : (τ₀ : Ty) (τs : List Ty) (σ : ℕ → Option Val) (b : Body) → Called 𝓛 τ₀ τs σ b → Callee → List Val → Type 0
  calls_with τ₀ τs σ b none n vs = ⊥
  calls_with τ₀ τs σ b (some h) n vs = (h.0 ≡ n) × (h.1 ≡ vs)

  abbrev pub hands_in : List Ty → Body → Callee → List Val → Type 0
  hands_in [] b n vs = ⊥
  hands_in (τ₀ ∷ τs) b n vs = Holds (typed τs vs) × calls_with τ₀ τs (entry vs) b (hands 𝓛 τ₀ τs (entry vs) b) n vs

  abbrev pub Hands : Fn → Callee → List Val → Type 0
  Hands f n vs = hands_in (tys f.locals) f.body n vs
