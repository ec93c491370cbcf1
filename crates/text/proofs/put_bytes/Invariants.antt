use Rattle.text.proofs.Spells.{byte, Spelling}
use Rattle.text.proofs.put_bytes.Given as goal

abbrev pub invariant-loop-b : goal.invariant-loop-b
invariant-loop-b l = Spelling byte l.src l.initial.out l.at l.out l.next l.b-index
