-- The bound: how the settled front of a sheet compares with the given list, and what that says of the kits after it.
-- Assumes nothing.
use mathlib.Core.Path.{◌≡◌, sym, ◌∙◌}
use mathlib.Core.Bool.{Bool, true, false, true≢false}
use mathlib.Core.List.{List}
use Prim.Native.Nat.{ℕ, ◌≤◌, ◌<◌}
use native.Mathlib.Omega.{arith}
use lib.ListN.{length, get_or}
use lib.Seq.{ext_get_or}
use Rattle.spec.specs.Records.{Rec}
use Rattle.spec.specs.Kits.{before}
use Rattle.kits.specs.Order.{LessAt, AnswerTo}
use Rattle.kits.specs.Kit.{SettledBelow, Kit, Wanted}
use Rattle.kits.proofs.Order.{at_before, before_irrefl, before_asym}
use Rattle.kits.proofs.Answers.{answer_same}
use Rattle.kits.proofs.Sheets.{kit_settled}

-- the first b boxes of t are settled, and the given list has n boxes
module _ (qs : List Rec) (n : ℕ) (t given : List ℕ) (b : ℕ) (within : b ≤ n) (front : SettledBelow b t) (long : length given ≡ n) where
  kit_front : (l : List ℕ) → Kit qs n t l → (c : ℕ) → c < b → get_or l c 2 ≡ get_or t c 2
  kit_front l kit c i = kit_settled kit c (omega arith) (front c i)

  -- none after the given list
  after_none : ((l : List ℕ) → Kit qs n t l → before given l ≡ false) → (x : List ℕ) → AnswerTo (Wanted qs n t true given) false x
  after_none h x k w = true≢false (sym w.later ∙ h k w.kit)

  -- the front stands before the given list: no kit is after it
  pub bound_less : (c : ℕ) → c < b → LessAt t given c → (x : List ℕ) → AnswerTo (Wanted qs n t true given) false x
  bound_less c i h =
      after_none
      (λ l kit.
      let e = kit_front l kit in
      before_asym l given
      (at_before l given c (kit.full.boxes ∙ sym long) (omega (arith, kit.full.boxes))
      (record { same = λ x j. e x (omega arith) ∙ h.same x j; less = omega (arith, h.less, e c i) })))

  -- the front stands after the given list: every kit is, and the bound says nothing more
  pub bound_more : (c : ℕ) → c < b → LessAt given t c →
      (found : Bool) (l : List ℕ) → AnswerTo (Wanted qs n t false given) found l → AnswerTo (Wanted qs n t true given) found l
  bound_more c i h =
      answer_same (λ k. (λ w. record { kit = w.kit; later = later k w.kit }, λ w. record { kit = w.kit; later = tt }))
    where
      later : (k : List ℕ) → Kit qs n t k → before given k ≡ true
      later k kit =
          let e = kit_front k kit in
          at_before given k c (long ∙ sym kit.full.boxes) (omega arith)
          (record { same = λ x j. h.same x j ∙ sym (e x (omega arith)); less = omega (arith, h.less, e c i) })

  -- all boxes are the given list's: the one kit that there may be is not after it
  pub bound_same : b ≡ n → ((c : ℕ) → c < b → get_or t c 2 ≡ get_or given c 2) → (x : List ℕ) → AnswerTo (Wanted qs n t true given) false x
  bound_same whole same = after_none (λ l kit. rw (is_given l kit) (before_irrefl given))
    where
      is_given : (l : List ℕ) → Kit qs n t l → l ≡ given
      is_given l kit =
          ext_get_or 2 l given (kit.full.boxes ∙ sym long)
          (λ c i. let j : c < b = omega (arith, kit.full.boxes) in kit_front l kit c j ∙ same c j)
