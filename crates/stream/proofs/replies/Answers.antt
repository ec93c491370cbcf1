-- `stream::replies` meets its contract. The loop's invariant: the full lines passed are answered.
-- Assumes nothing.
use Prim.Native.Nat.{◌<◌}
use native.Mathlib.Omega.{arith}
use lib.ListN.{length}
use Rattle.fields.proofs.Splitting.{end_below}
use Rattle.stream.proofs.Replying.{replying_next, replying_done}
use Rattle.stream.proofs.replies.Goals.{then-end-input-via-then-end-input, then-end-input-via-else-end-input+then-text-at-lt-REPLY}
use Rattle.stream.proofs.replies.Goals as goal

pub returns-then-end-input : goal.returns-then-end-input
returns-then-end-input c =
    let l = c.loop-from.invariant in
    replying_done l
    (λ none. elim c.then-end-input.branch [
      | then-end-input-via-then-end-input w ↦ omega (arith, w.if-end-input.true, rw none at c.end_of-end.ensures, c.requires.input_in_bounds)
      | then-end-input-via-else-end-input+then-text-at-lt-REPLY w ↦ omega (arith, w.if-text-at-lt-REPLY.true, l.start none, l.kept, c.requires.room_for_lines.reply)
    ])

pub slice_bounds-put_reply-end : goal.slice_bounds-put_reply-end
slice_bounds-put_reply-end c =
    omega (arith, c.end_of-end.ensures, end_below 10 c.args.input.now _ _ c.loop-from.invariant.within c.end_of-end.ensures)

pub loop-from-preserved : goal.loop-from-preserved
loop-from-preserved c =
    let l = c.loop-from.invariant in
    let full : c.end_of-end.result < length c.args.input.now =
    omega (arith, c.if-end-input.false, end_below 10 c.args.input.now _ _ l.within c.end_of-end.ensures) in
    replying_next l _ c.end_of-end.ensures full _ _ (omega (arith, c.put_reply-at.ensures.short, c.if-text-at-lt-REPLY.false)) c.put_reply-at.ensures.puts
