use Rattle.text.specs.Spelling.{digit}
use Rattle.text.proofs.Spells.{Spelling}
use Rattle.text.proofs.put_digits.Given as goal

abbrev pub invariant-loop-b : goal.invariant-loop-b
invariant-loop-b l = Spelling digit l.src l.initial.out l.at l.out l.next l.b-index
