-- What filling to rest does to the states. An engine of any kind meets the last of these.
-- Assumes nothing.
use Rattle.std.specs.Prelude.{◌≡◌, ℕ, Result, Ok, Err, length}
use mathlib.Core.List.{List, Memᴰ}
use Rattle.spec.specs.Records.{Rec}
use Rattle.spec.specs.Facts as facts
use Rattle.theory.specs.Steps.{IsSheet, Stable, Grown}
use Rattle.engine.specs.declared.step.Clash.{Clash}

-- the engine's 256 states
pub record Cells (s : List ℕ) : Type 0 where
  pub size : length s ≡ 256
  pub sheet : IsSheet s

-- some box has both facts in the closure of s
abbrev pub SomeClash : List Rec → List ℕ → Type 0
SomeClash qs s = (b : ℕ) × facts.Clash qs s b

abbrev pub AllStable : List Rec → List ℕ → Type 0
AllStable qs s = (q : Rec) → Memᴰ q qs → Stable q s

-- the states have grown to rest; or a clash
abbrev pub Rested : List Rec → List ℕ → List ℕ → Result Unit Clash → Type 0
Rested qs s t (Ok _) = Grown qs s t × AllStable qs t
Rested qs s t (Err _) = SomeClash qs s
