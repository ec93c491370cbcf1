-- One settled box: its byte, its fact, and whether it is in.
-- Assumes nothing.
use mathlib.Core.Path.{◌≡◌, refl, sym, ap, ◌∙◌}
use mathlib.Core.Logic.{◌⊎◌, ⊎_map, ⊎_elim}
use mathlib.Core.Bool.{Bool, true, false}
use mathlib.Core.List.{List, [], ◌∷◌}
use Prim.Native.Nat.{ℕ, zero, suc, ◌≤◌}
use native.Mathlib.Omega.{arith}
use lib.Dec.{T, eqb, eqb→eq}
use lib.ListN.{get_or}
use Rattle.lemmas.proofs.Tests.{or_cases, or_left}
use Rattle.spec.specs.Facts.{holds}
use Rattle.spec.specs.Fits.{is_in}

-- 0 out, 1 in
abbrev pub byte : Bool → ℕ
byte false = 0
byte true = 1

pub byte_small : (state : Bool) → byte state ≤ 1
byte_small false = omega arith
byte_small true = omega arith

-- it is no matter whether past the end 0 or 2 is read
pub in_read : (l : List ℕ) (b : ℕ) → is_in l b ≡ eqb (get_or l b 2) 1
unfolding is_in
in_read [] b = refl
in_read (a ∷ l) zero = refl
in_read (a ∷ l) (suc b) = in_read l b

pub byte_in : (l : List ℕ) (b : ℕ) (state : Bool) → get_or l b 2 ≡ byte state → is_in l b ≡ state
byte_in l b state e = in_read l b ∙ ap (λ (a : ℕ). eqb a 1) e ∙ at state
  where
    at : (state : Bool) → eqb (byte state) 1 ≡ state
    at false = refl
    at true = refl

pub settled_byte : (s : List ℕ) (b : ℕ) → get_or s b 2 ≤ 1 → get_or s b 2 ≡ byte (is_in s b)
settled_byte s b h = at (get_or s b 2) h ∙ ap byte (sym (in_read s b))
  where
    at : (a : ℕ) → a ≤ 1 → a ≡ byte (eqb a 1)
    at zero h = refl
    at (suc zero) h = refl
    at (suc (suc a)) h = absurd (omega arith)

pub byte_holds : (s : List ℕ) (b : ℕ) (state : Bool) → get_or s b 2 ≡ byte state → T (holds s b state)
unfolding holds
byte_holds s b false e = or_left (eqb (get_or s b 2) 0) (eqb (get_or s b 2) 3) (rw e tt)
byte_holds s b true e = or_left (eqb (get_or s b 2) 1) (eqb (get_or s b 2) 3) (rw e tt)

-- the byte of a fact, or 3: both
pub holds_byte : (s : List ℕ) (b : ℕ) (state : Bool) → T (holds s b state) → (get_or s b 2 ≡ byte state) ⊎ (get_or s b 2 ≡ 3)
unfolding holds
holds_byte s b false t = ⊎_map (eqb→eq _ 0) (eqb→eq _ 3) (or_cases (eqb (get_or s b 2) 0) (eqb (get_or s b 2) 3) t)
holds_byte s b true t = ⊎_map (eqb→eq _ 1) (eqb→eq _ 3) (or_cases (eqb (get_or s b 2) 1) (eqb (get_or s b 2) 3) t)

-- state 3 never appears on a sheet
pub sheet_byte : (s : List ℕ) (b : ℕ) (state : Bool) → get_or s b 2 ≤ 2 → T (holds s b state) → get_or s b 2 ≡ byte state
sheet_byte s b state small t = ⊎_elim (λ e. e) (λ e. absurd (omega arith)) (holds_byte s b state t)
