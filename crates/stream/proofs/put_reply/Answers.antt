-- `stream::put_reply` meets its contract: a line that is too long may be cut.
-- Assumes nothing.
use native.Mathlib.Omega.{arith}
use lib.ListN.{length-take}
use Rattle.stream.proofs.Replying.{reply_cut}
use Rattle.stream.proofs.put_reply.Goals as goal

pub returns : goal.returns
returns c =
    let put = c.reply.ensures in
    let line = c.args.line.now in
    record {
      puts = rw (reply_cut line c.min-size.result (omega (arith, c.min-size.ensures))) at put.puts;
      short = omega (arith, put.short, length-take c.min-size.result line, c.min-size.ensures);
    }
