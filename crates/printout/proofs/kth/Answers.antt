-- `printout::kth` meets its contract: the index of the kind and the states that are read from k is k.
-- Assumes nothing.
use mathlib.Core.Path.{ap, ◌∙◌}
use native.Mathlib.Omega.{arith}
use Rattle.spec.specs.OneRule.{outcome}
use Rattle.printout.proofs.kth.Goals as goal

pub returns : goal.returns
returns c = c.outcome_of.ensures ∙ ap outcome (omega arith)
