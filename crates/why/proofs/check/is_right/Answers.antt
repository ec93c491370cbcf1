-- `why::check::is_right` meets its contract: the record that the line names is a good one.
-- Assumes nothing.
use Rattle.std.proofs.Common.{◌<◌, arith}
use Rattle.std.proofs.lemmas.Bool.Decides.{nat_tests}
use Rattle.std.proofs.lemmas.Grind.{common_steps}
use Rattle.spec.specs.Records.{record_count}
use Rattle.spec.proofs.Accepted.{accepted_all}
use Rattle.why.proofs.check.is_right.Goals as goal

pub given-requires-clause-q_value : goal.given-requires-clause-q_value
given-requires-clause-q_value c =
    let below : c.args.a.number < record_count c.args.t.maker.now c.args.t.depot.now = grind (arith, common_steps, nat_tests) in
    rw c.record.ensures ((accepted_all c.args.t.accepted).good _ below)
