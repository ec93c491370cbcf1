-- `fields::parts::Parts::copy_part` meets its contract: the part is put at the front.
-- Assumes nothing.
use mathlib.Core.Path.{◌∙◌, ap}
use native.Mathlib.Omega.{arith}
use lib.ListN.{length}
use Rattle.text.proofs.Puts.{put_length, put_front}
use Rattle.fields.proofs.Pieces.{part_length}
use Rattle.fields.proofs.parts.Parts.copy_part.Goals as goal

pub returns : goal.returns
returns c =
    let parts = c.args.self.now in
    let put = c.put_bytes.ensures in
    let size = part_length parts.bytes.now parts.ends parts.in_order c.args.k c.requires.0 in
    let whole = ap length c.part.ensures in
    record {
      copied = put_front (omega (arith, whole, size, c.requires.1)) put ∙ c.part.ensures;
      within = omega (arith, put.after, put_length put, whole, size, c.requires.1);
      below = omega (arith, put.after, whole, size);
    }
