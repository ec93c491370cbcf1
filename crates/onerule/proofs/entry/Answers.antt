-- `onerule::entry` meets its contract: place k of the table, by what `table` ensures.
-- Assumes nothing.
use native.Mathlib.Omega.{arith}
use Rattle.lemmas.proofs.Members.{get_or_upto}
use Rattle.spec.specs.OneRule.{outcome}
use Rattle.onerule.proofs.entry.Goals as goal

pub returns : goal.returns
returns c = rw c.table.ensures (get_or_upto outcome 256 c.args.k 0 (omega arith))
