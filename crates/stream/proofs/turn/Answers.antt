-- `stream::turn` meets its contract: what is left is kept, or waits for more, or is the last line.
-- Assumes nothing.
use native.Mathlib.Omega.{arith}
use Rattle.stream.proofs.Turning.{turned_kept, turned_waits, turned_ends}
use Rattle.stream.proofs.turn.Goals as goal

pub returns-in-Some : goal.returns-in-Some
returns-in-Some c =
    turned_kept c.args.input.now c.args.size c.requires.size_in_bounds c.in-Some.ensures c.args.ended _ _ c.keep.auto.input
    c.keep.ensures.value c.keep.ensures.input_after

pub returns-in-None : goal.returns-in-None
returns-in-None c =
    turned_ends c.args.input.now c.args.size c.requires.size_in_bounds c.in-None.ensures c.args.ended _ _ _ c.if-ended.true
    c.if-not-skipping.true (omega (arith, c.requires.room_for_lines.reply, c.advance.auto.text)) c.put_reply.ensures

pub returns-in-None-2 : goal.returns-in-None-2
returns-in-None-2 c =
    turned_waits c.args.input.now c.args.size c.requires.size_in_bounds c.in-None-2.ensures c.args.ended _
    (λ e. c.if-not-skipping.false)
