-- A field of a struct's value, as the walk of straight code (`Straight.antt`) reads it.
--     FieldAt     field k of the type τ lies at an offset, and is read there as u where the whole is v; u is within its width where v is
--     in_struct   the field of a struct's value at its place in the list of fields
-- Assumes `Logic`.
use mathlib.Core.Path.{◌≡◌}
use mathlib.Core.Option.{Option, none, some}
use mathlib.Core.List.{List, ◌∷◌}
use Prim.Native.Nat.{ℕ, zero, suc, ◌+◌}
use seplogic.Ra.Ura.{Ura}
use mir.Syntax.{Ty, ty_struct, Sym, Tys}
use mir.Val.{Val, vstruct, Vals, vnil, vcons, WT, WTs}
use mir.Fields.{get_v}
use base.Fml.{Share, fat}
use prog.Memory.{field_at, field_of}
use types.Logic.{Logic}
use types.Kit.{Item, ‵, Go, ! }
use types.Part.{whole, sub, look_in}
use types.Run.{Reads}

pub wt_field : (us : Vals) (k : ℕ) → WTs us → WT (get_v us k)
wt_field vnil k w = tt
wt_field (vcons v us) zero w = w.0
wt_field (vcons v us) (suc k) w = wt_field us k w.1

module _ {M : Type 1} {𝓤 : Ura M} (𝓛 : Logic 𝓤) where
  pub record FieldAt (τ : Ty) (k : ℕ) (v u : Val) : Type 2 where
    pub ty : Ty
    pub off : ℕ
    pub is : field_of τ k ≡ some (ty, off)
    pub read : (q : Share) (b o : ℕ) (Γ : List (Item 𝓤)) → Reads (Go {0}) 𝓛 (‵ (fat q τ b o v) ∷ Γ) ty b (o + off) u
    pub wt : WT v → WT u

  -- of a struct's value, field k of the list
  abbrev pub in_struct : (ν : Sym) (τs : Tys) (k : ℕ) (us : Vals) (o : Option (Ty × ℕ)) → field_at zero τs k ≡ o
      → Option ((u : Val) × FieldAt (ty_struct ν τs) k (vstruct us) u)
  in_struct ν τs k us none e = none
  in_struct ν τs k us (some f) e =
      some (get_v us k, record { ty = f.0; off = f.1; is = e; read = λ q b o Γ. look_in ! 0 (sub ! k e (whole !)); wt = wt_field us k })
