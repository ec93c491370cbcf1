-- `calls::operations::answer_fill` meets its contract: what it says, and then the buffer as it leaves it.
-- Assumes nothing.
use mathlib.Core.Path.{ap}
use native.Mathlib.Omega.{arith}
use lib.Seq.{length-take-le}
use Rattle.text.specs.Spelling.{field}
use Rattle.calls.specs.Words.{words_of}
use Rattle.calls.proofs.Putting.{put_lent}
use Rattle.calls.proofs.operations.answer_fill.Goals as goal

pub returns : goal.returns
returns c =
    let promise = rw (c.part.ensures, c.part-2.ensures, c.part-3.ensures, c.copy_part-n.ensures.copied) at c.fill-answer.ensures in
    put_lent _ _ c.put_filled-next.ensures c.put_buffer.ensures (ap (words_of (field "filled ")) promise.says) promise.writes
    (omega (arith, c.copy_part-n.ensures.below, c.fill-answer.auto.out, length-take-le _ _ c.copy_part-n.ensures.within))
