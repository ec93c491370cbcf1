-- `calls::rows::Call::answer` meets its contract: each call has its row's answer.
-- Assumes nothing.
use Rattle.calls.specs.Rows.{row_at}
use Rattle.calls.proofs.rows.Call.answer.Goals as goal

pub returns-in-Show : goal.returns-in-Show
unfolding row_at
returns-in-Show c = rw c.in-Show.is c.answer_show.ensures
