-- `calls::reply::reply` meets its contract.
-- Assumes nothing.
use native.Mathlib.Omega.{arith}
use Rattle.text.proofs.Puts.{put_none, put_then}
use Rattle.calls.proofs.Answering.{reply_empty, reply_comment, reply_answer}
use Rattle.calls.proofs.reply.reply.Goals as goal

pub returns-in_default : goal.returns-in_default
returns-in_default c = rw (reply_empty _ c.in_default.len_below) (record { puts = put_none; short = omega arith })

pub returns-then-first-eq35 : goal.returns-then-first-eq35
returns-then-first-eq35 c =
    rw (reply_comment _ c.in-len1-up.len_at_least c.if-first-eq35.true) (record { puts = put_none; short = omega arith })

pub returns : goal.returns
returns c =
    let said = c.answer-next.ensures in
    rw (reply_answer _ c.in-len1-up.len_at_least c.if-first-eq35.false)
    (record { puts = put_then said.puts c.put_byte.ensures; short = omega (arith, said.short, c.put_byte.ensures.after) })
