-- `text::put_digits` meets its contract. The loop's invariant: the bytes passed are put.
-- Assumes nothing.
use mathlib.Core.Path.{refl}
use native.Mathlib.Omega.{arith}
use Rattle.text.specs.Spelling.{digits_of}
use Rattle.text.proofs.Puts.{put_length}
use Rattle.text.proofs.Spells.{spelling_start, spelling_next, spelling_all, spelling_place}
use Rattle.text.proofs.put_digits.Goals as goal

pub loop-b-init : goal.loop-b-init
loop-b-init c = spelling_start

pub overflow_add-b : goal.overflow_add-b
overflow_add-b c = omega (arith, c.requires.by_index c.loop-b.b-index (omega arith))

pub put_byte-next-requires : goal.put_byte-next-requires
put_byte-next-requires c =
    let so = c.loop-b.invariant in
    omega (arith, spelling_place 1 (λ b. refl) so, put_length so.puts)

pub loop-b-preserved : goal.loop-b-preserved
loop-b-preserved c =
    spelling_next 0 c.loop-b.invariant (omega arith) c.put_byte-next.ensures

pub returns : goal.returns
unfolding digits_of
returns c = spelling_all c.loop-b.invariant (omega arith)
