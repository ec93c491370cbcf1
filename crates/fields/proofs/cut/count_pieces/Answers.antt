-- `fields::cut::count_pieces` meets its contract: what is counted and what is left are all the pieces.
-- Assumes nothing.
use mathlib.Core.Bool.{Bool, true, false}
use Prim.Native.Nat.{◌≤◌}
use mir.Val.{bool_byte}
use native.Mathlib.Omega.{arith}
use Rattle.fields.proofs.Scanning.{pieces_next, pieces_end}
use Rattle.fields.proofs.cut.count_pieces.Goals as goal

at_most_one : (is : Bool) → bool_byte is ≤ 1
at_most_one true = omega arith
at_most_one false = omega arith

pub overflow_add-n : goal.overflow_add-n
overflow_add-n c =
    let small : c.from-n.result ≤ 1 = rw c.from-n.ensures (at_most_one _) in
    record { fits = omega (arith, c.requires, c.loop-c.invariant) }

pub loop-c-preserved : goal.loop-c-preserved
loop-c-preserved c =
    let small : c.from-n.result ≤ 1 = rw c.from-n.ensures (at_most_one _) in
    omega (arith, c.loop-c.invariant, small, c.from-n.ensures, pieces_next c.args.mark c.args.s.now c.loop-c.c-index (omega arith))

pub returns : goal.returns
returns c = omega (arith, c.loop-c.invariant, pieces_end c.args.mark c.args.s.now c.loop-c.c-index (omega arith))
