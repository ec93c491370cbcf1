-- `calls::rows::Call::of` meets its contract: the words are those of the rows.
-- Assumes nothing.
use mathlib.Core.Path.{◌∙◌}
use Rattle.calls.proofs.Table.{word_found, word_missing, call_numbered}
use Rattle.calls.proofs.rows.Call.of.Goals as goal

pub returns-in_err-k : goal.returns-in_err-k
returns-in_err-k c = rw c.from_residual.ensures (word_missing c.args.word.now c.in_err-k.ensures)

pub returns : goal.returns
returns c = let found = word_found c.args.word.now c.in_ok-k.ensures in call_numbered c.in_ok-k.k found.0 ∙ found.1
