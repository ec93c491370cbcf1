-- What is read from a list at an index, with what is read past its end.
-- Assumes nothing.
use mathlib.Core.Path.{◌≡◌, refl}
use mathlib.Core.List.{List, [], ◌∷◌}
use Prim.Native.Nat.{ℕ, zero, suc, ◌<◌}
use native.Mathlib.Nat.{not-suc-le-zero, le_of_suc-le-suc}
use native.Mathlib.Omega.{arith}
use native.Mathlib.Decide.{ℕ_discrete, dec_lt}
use lib.ListN.{length, get_or, set, get_or-eq_default}
use lib.Seq.{get_or-set_same, get_or-set_other, set_out}

-- below the length it is no matter what is read past the end
pub get_d_default : {A : Type 0} (l : List A) (i : ℕ) (d e : A) → i < length l → get_or l i d ≡ get_or l i e
get_d_default [] i d e h = absurd (not-suc-le-zero h)
get_d_default (a ∷ l) zero d e h = refl
get_d_default (a ∷ l) (suc i) d e h = get_d_default l i d e (le_of_suc-le-suc h)

-- what holds below the length, and of what is read past the end, holds at every index
pub get_or_each : {A : Type 0} (P : A → Type 0) (l : List A) (d e : A) → ((i : ℕ) → i < length l → P (get_or l i d)) → P e →
    (i : ℕ) → P (get_or l i e)
get_or_each P l d e h past i = at (dec_lt i (length l))
  where
    at : Dec (i < length l) → P (get_or l i e)
    at (yes below) = rw (get_d_default l i e d below) (h i below)
    at (no above) = rw (get_or-eq_default l e {n = i} (omega arith)) past

-- what holds of every element that is read, and of a new one, holds once that is written
pub get_d_set : {A : Type 0} (P : A → Type 0) (l : List A) (i : ℕ) (v d : A) → P v → ((j : ℕ) → P (get_or l j d)) →
    (j : ℕ) → P (get_or (set l i v) j d)
get_d_set P l i v d new old j = at (ℕ_discrete j i) (dec_lt i (length l))
  where
    at : Dec (j ≡ i) → Dec (i < length l) → P (get_or (set l i v) j d)
    at (no other) in' = rw (get_or-set_other l i j v d other) (old j)
    at (yes same) (yes in') = rw (same, get_or-set_same l i v d in') new
    at (yes same) (no out) = rw (set_out l i v (omega arith)) (old j)
