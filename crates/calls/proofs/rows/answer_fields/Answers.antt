-- `calls::rows::answer_fields` meets its contract: behind the last row nothing is answered.
-- Assumes nothing.
use native.Mathlib.Omega.{arith}
use Rattle.text.proofs.Puts.{put_none}
use Rattle.calls.proofs.Table.{row_past}
use Rattle.calls.proofs.rows.answer_fields.Goals as goal

pub returns-in_default : goal.returns-in_default
returns-in_default c =
    rw (row_past c.args.row (omega (arith, c.in_default.ensures.lookup)) _) (record { puts = put_none; short = omega arith })
