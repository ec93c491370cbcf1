-- `text::put_bytes` meets its contract. The loop's invariant: the bytes passed are put.
-- Assumes nothing.
use mathlib.Core.Path.{refl}
use native.Mathlib.Omega.{arith}
use Rattle.text.proofs.Puts.{put_length}
use Rattle.text.proofs.Spells.{spelt_bytes, spelling_start, spelling_next, spelling_all, spelling_place}
use Rattle.text.proofs.put_bytes.Goals as goal

pub loop-b-init : goal.loop-b-init
loop-b-init c = spelling_start

pub put_byte-next-requires : goal.put_byte-next-requires
put_byte-next-requires c =
    let so = c.loop-b.invariant in
    omega (arith, spelling_place 1 (λ b. refl) so, put_length so.puts)

pub loop-b-preserved : goal.loop-b-preserved
loop-b-preserved c =
    spelling_next 0 c.loop-b.invariant (omega arith) c.put_byte-next.ensures

pub returns : goal.returns
returns c = rw spelt_bytes at (spelling_all c.loop-b.invariant (omega arith))
