use lib.ListN.{length, drop}
use Rattle.fields.specs.Fields.{fields_of}
use Rattle.fields.proofs.Scanning.{left}
use Rattle.fields.proofs.Taking.{Taking}
use Rattle.fields.proofs.parts.take_parts.Given as goal

abbrev pub invariant-loop-k : goal.invariant-loop-k
invariant-loop-k l =
    Taking l.line (fields_of (drop l.from l.line)) (length l.initial.bytes) l.bytes l.ends (left l.fields) l.at l.k
