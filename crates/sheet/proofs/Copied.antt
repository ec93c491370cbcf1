-- A sheet before open boxes, 256 in all, is loaded.
-- Assumes nothing.
use Rattle.std.proofs.Common.{◌≡◌, ℕ, ◌-◌, ◌≤◌, ◌<◌, List, ◌++◌, length, get_or, drop, replicate, refl, sym, ◌∙◌, arith, length-append}
use native.Mathlib.Decide.{dec_lt}
use lib.ListN.{length-replicate, get_or-eq_default}
use Rattle.std.proofs.lemmas.List.{get_or_append_left, get_or-append_right, get_or-replicate, drop-replicate}
use Rattle.theory.specs.Steps.{Loaded}

module _ (sheet : List ℕ) (fits : length sheet ≤ 256) where
  open_rest : (i : ℕ) → Dec (i < 256 - length sheet) → get_or (replicate {A = ℕ} (256 - length sheet) 2) i 2 ≡ 2
  open_rest i (yes h) = get_or-replicate _ i 2 2 h
  open_rest i (no h) = get_or-eq_default _ 2 {n = i} (omega (arith, length-replicate {A = ℕ} (256 - length sheet) 2))

  at : (b : ℕ) → Dec (b < length sheet) → get_or (sheet ++ replicate (256 - length sheet) 2) b 2 ≡ get_or sheet b 2
  at b (yes h) = get_or_append_left sheet _ 2 b h
  at b (no h) =
      get_or-append_right sheet _ _ b 2 refl (omega arith)
      ∙ open_rest (b - length sheet) (dec_lt _ _)
      ∙ sym (get_or-eq_default sheet 2 {n = b} (omega arith))

  pub loaded_copy : {states : List ℕ} → states ≡ replicate 256 2 → Loaded sheet (sheet ++ drop (length sheet) states)
  loaded_copy all_open =
      rw (all_open, drop-replicate {X = ℕ} (length sheet) 256 2)
      (record {
        size = omega (arith, length-append sheet (replicate (256 - length sheet) 2), length-replicate {A = ℕ} (256 - length sheet) 2);
        same = λ b. at b (dec_lt b (length sheet));
      })
