-- `onerule::table` meets its contract: antt computes the 256 outcomes, and they are the constant's entries.
-- Assumes nothing.
use mathlib.Core.Path.{refl}
use Rattle.spec.specs.Kinds.{kind_of}
use Rattle.spec.specs.Rules.{rules_of}
use Rattle.spec.specs.Records.{box_at}
use Rattle.spec.specs.Facts.{holds}
use Rattle.spec.specs.Rounds.{has, names, gives, follows, code, round, closed}
use Rattle.spec.specs.OneRule.{record_of, states_of, packed, outcome}
use Rattle.onerule.proofs.table.Goals as goal

pub returns : goal.returns
unfolding kind_of rules_of box_at holds has names gives follows code round closed record_of states_of packed outcome
returns c = refl
