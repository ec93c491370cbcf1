-- `calls::rows::answer_with` meets its contract: the parts that are answered are those that the fields give.
-- Assumes nothing.
use Rattle.calls.specs.Rows.{row_at}
use Rattle.calls.specs.Room.{row_number}
use Rattle.calls.proofs.Putting.{put_fields}
use Rattle.calls.proofs.rows.answer_with.Goals as goal

pub returns : goal.returns
returns g c = put_fields (row_at (row_number c.args.call)).answer c.take_parts-ends.ensures c.answer.ensures
