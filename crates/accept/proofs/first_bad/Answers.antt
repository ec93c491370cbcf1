-- `accept::first_bad` meets its contract: no record passed is bad.
-- Assumes nothing.
use Rattle.std.proofs.Common.{◌≡◌, true, arith}
use Rattle.lemmas.proofs.Lowest.{if_found, if_none}
use Rattle.spec.specs.Records.{bad, record_at}
use Rattle.accept.proofs.first_bad.Goals as goal

pub returns-then-is_bad : goal.returns-then-is_bad
returns-then-is_bad c =
    let tested : bad c.args.n (record_at c.args.maker.now c.args.depot.now c.loop-i.i) ≡ true = cc in
    if_found _ _ _ (omega arith) tested c.loop-i.invariant

pub returns : goal.returns
returns c = if_none _ _ (λ j l. c.loop-i.invariant j (omega arith))
