-- The bytes of a field, and a part found again in the buffer that holds it.
-- Assumes nothing.
use mathlib.Core.Path.{◌≡◌, refl, sym, ◌∙◌, ap}
use mathlib.Core.List.{List, [], ◌∷◌, ◌++◌, append_assoc}
use Prim.Native.Nat.{ℕ, zero, suc, ◌+◌, ◌*◌, ◌-◌, ◌≤◌, ◌<◌}
use native.Mathlib.Omega.{arith}
use native.Mathlib.Nat.{add-sub_cancel_left}
use native.Mathlib.Numerals.{add-one}
use native.Mathlib.Decide.{dec_lt}
use lib.ListN.{length, get_or, take, drop, length-take, take-append-drop}
use lib.Seq.{take_at, drop_at}
use Rattle.fields.specs.Fields.{bytes_in}
use Rattle.fields.specs.Ends.{part_in, EndsInOrder}

-- two characters a byte
pub bytes_half : (f : List ℕ) → 2 * length (bytes_in f) ≤ length f
bytes_half [] = omega arith
bytes_half (a ∷ []) = omega arith
bytes_half (a ∷ b ∷ f) = omega (arith, bytes_half f)

-- a part is found where it starts and ends, in a buffer whose first n bytes are known
pub piece : (l p q r : List ℕ) (n from end : ℕ) → take n l ≡ p ++ (q ++ r) → from ≡ length p → end ≡ from + length q →
    take (end - from) (drop from l) ≡ q
piece l p q r n from end e start stop =
    let whole : l ≡ p ++ (q ++ (r ++ drop n l)) = sym (take-append-drop n l) ∙ rw e (simp append_assoc) in
    let rest : drop from l ≡ q ++ (r ++ drop n l) = ap (drop from) whole ∙ drop_at p (q ++ (r ++ drop n l)) from (sym start) in
    let size : end - from ≡ length q = ap (λ (k : ℕ). k - from) stop ∙ add-sub_cancel_left from (length q) in
    rw (size, rest) (take_at q (r ++ drop n l) (length q) refl)

-- no part is longer than all together
pub part_length : (bytes ends : List ℕ) → EndsInOrder bytes ends → (k : ℕ) → k < 8 → length (part_in bytes ends k) ≤ get_or ends 8 0
part_length bytes ends h k more =
    omega (
      arith,
      length-take (get_or ends (k + 1) 0 - get_or ends k 0) (drop (get_or ends k 0) bytes),
      end_most 8 (omega arith) (k + 1) (omega arith),
    )
  where
    end_most : (m : ℕ) → m ≤ 8 → (j : ℕ) → j ≤ m → get_or ends j 0 ≤ get_or ends m 0
    end_most zero most j low = let first : j ≡ 0 = omega arith in rw first (omega arith)
    end_most (suc m) most j low = at (dec_lt j (suc m)) (end_most m (omega arith))
      where
        at : Dec (j < suc m) → ((j : ℕ) → j ≤ m → get_or ends j 0 ≤ get_or ends m 0) → get_or ends j 0 ≤ get_or ends (suc m) 0
        at (yes less) rest = rw (← (add-one m)) (omega (arith, h.order m (omega arith), rest j (omega arith)))
        at (no same) rest = let last : j ≡ suc m = omega arith in rw last (omega arith)
