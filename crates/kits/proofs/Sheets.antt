-- What a question depends on: the kits; of a sheet its first n boxes alone; without `after` not the given list. And how its facts
-- are read from lists with another number past their end.
-- Assumes nothing.
use mathlib.Core.Path.{◌≡◌, sym, ◌∙◌}
use mathlib.Core.Logic.{◌↔◌}
use mathlib.Core.Bool.{Bool, false}
use mathlib.Core.List.{List}
use Prim.Native.Nat.{ℕ, ◌≤◌, ◌<◌}
use native.Mathlib.Omega.{arith}
use lib.ListN.{length, get_or, get_or-eq_default}
use Rattle.spec.specs.Records.{Rec}
use Rattle.kits.specs.Order.{AnswerTo}
use Rattle.kits.specs.Kit.{OpenFrom, Kit, Wanted}
use Rattle.kits.proofs.Answers.{answer_same}

-- the same kits: the same lists wanted
pub wanted_same : {qs : List Rec} {n : ℕ} {s t : List ℕ} → ((k : List ℕ) → Kit qs n s k ↔ Kit qs n t k) →
    (after : Bool) (given l : List ℕ) → Wanted qs n s after given l ↔ Wanted qs n t after given l
wanted_same e after given l =
    (λ w. record { kit = (e l).0 w.kit; later = w.later }, λ w. record { kit = (e l).1 w.kit; later = w.later })

-- a kit has the state of every settled box
pub kit_settled : {qs : List Rec} {n : ℕ} {s l : List ℕ} → Kit qs n s l → (b : ℕ) → b < n → get_or s b 2 ≤ 1 → get_or l b 2 ≡ get_or s b 2
kit_settled kit b i settled = kit.keeps b i (λ z. omega arith)

-- two sheets with the same first n boxes
module _ (qs : List Rec) (n : ℕ) where
  kit_cells : (s t : List ℕ) → ((b : ℕ) → b < n → get_or s b 2 ≡ get_or t b 2) → (l : List ℕ) → Kit qs n s l → Kit qs n t l
  kit_cells s t same l kit =
      record {
        full = kit.full;
        keeps = λ b i settled. kit.keeps b i (λ z. settled (sym (same b i) ∙ z)) ∙ same b i;
        fits = kit.fits;
      }

  pub cells_answer : (s t : List ℕ) → ((b : ℕ) → b < n → get_or s b 2 ≡ get_or t b 2) →
      (after : Bool) (given : List ℕ) (found : Bool) (l : List ℕ) →
      AnswerTo (Wanted qs n s after given) found l → AnswerTo (Wanted qs n t after given) found l
  cells_answer s t same after given =
      answer_same (wanted_same (λ k. (kit_cells s t same k, kit_cells t s (λ b i. sym (same b i)) k)) after given)

  -- First's question
  pub kit_answer : (s given : List ℕ) (found : Bool) (l : List ℕ) → AnswerTo (Wanted qs n s false given) found l → AnswerTo (Kit qs n s) found l
  kit_answer s given = answer_same (λ k. (λ w. w.kit, λ kit. record { kit = kit; later = tt }))

-- past the end of a sheet nothing is settled
pub sheet_past : (s : List ℕ) → OpenFrom (length s) s
sheet_past s b h = get_or-eq_default s 2 {n = b} h
