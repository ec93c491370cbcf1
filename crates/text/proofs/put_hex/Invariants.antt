use Rattle.text.specs.Spelling.{hex_pair}
use Rattle.text.proofs.Spells.{Spelling}
use Rattle.text.proofs.put_hex.Given as goal

abbrev pub invariant-loop-b : goal.invariant-loop-b
invariant-loop-b l = Spelling hex_pair l.src l.initial.out l.at l.out l.next l.b-index
