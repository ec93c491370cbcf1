-- `text::put_hex` meets its contract. The loop's invariant: the bytes passed are put.
-- Assumes nothing.
use mathlib.Core.Path.{refl, ap}
use native.Mathlib.Omega.{arith}
use lib.ListN.{length}
use Rattle.text.specs.Spelling.{hex_pair}
use Rattle.text.proofs.Puts.{put_length}
use Rattle.text.proofs.Spells.{hex_none, hex_some, spelt_length, spelling_start, spelling_next, spelling_all, spelling_place}
use Rattle.text.proofs.put_hex.Goals as goal

pub put_byte-requires : goal.put_byte-requires
put_byte-requires c = omega (arith, ap length (hex_none c.args.src.now c.if-is_empty.ensures))

pub returns-then-is_empty : goal.returns-then-is_empty
returns-then-is_empty c = rw (hex_none _ c.if-is_empty.ensures) c.put_byte.ensures

pub loop-b-init : goal.loop-b-init
loop-b-init c = spelling_start

pub put_hex_pair-next-requires : goal.put_hex_pair-next-requires
put_hex_pair-next-requires c =
    let so = c.loop-b.invariant in
    let src = c.args.src.now in
    omega (
      arith,
      spelling_place 2 (λ b. refl) so,
      put_length so.puts,
      ap length (hex_some src c.if-is_empty.ensures),
      spelt_length hex_pair 2 (λ b. refl) src,
    )

pub loop-b-preserved : goal.loop-b-preserved
loop-b-preserved c =
    spelling_next 0 c.loop-b.invariant (omega arith) c.put_hex_pair-next.ensures

pub returns : goal.returns
returns c = rw (hex_some _ c.if-is_empty.ensures) (spelling_all c.loop-b.invariant (omega arith))
