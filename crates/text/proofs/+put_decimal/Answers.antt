-- The proof of the cycle of calls {put_decimal}. The measure is the number, which falls to its tenth.
-- Assumes nothing.
use mathlib.Core.Path.{ap}
use mathlib.Core.List.{[], ◌∷◌}
use Prim.Native.Nat.{◌+◌, ◌/◌, ◌%◌}
use native.Mathlib.Omega.{arith}
use lib.ListN.{length, length-append}
use Rattle.text.specs.Spelling.{decimal}
use Rattle.text.proofs.Puts.{put_then, put_length}
use Rattle.text.proofs.Decimals.{decimal_short, decimal_long}
use Rattle.text.proofs.+put_decimal.Goals as goal

pub put_byte-requires : goal.put_byte-requires
put_byte-requires t c =
    omega (arith, c.requires, ap length (decimal_short c.args.n c.if-n-lt10.true))

pub returns-then-n-lt10 : goal.returns-then-n-lt10
returns-then-n-lt10 t c =
    rw (decimal_short c.args.n c.if-n-lt10.true) c.put_byte.ensures

pub put_decimal-next-requires : goal.put_decimal-next-requires
put_decimal-next-requires t c =
    let n = c.args.n in (
      omega arith,
      omega (
        arith,
        c.requires,
        ap length (decimal_long n c.if-n-lt10.false),
        length-append (decimal (n / 10)) ((48 + n % 10) ∷ []),
      ),
    )

pub put_byte-requires-2 : goal.put_byte-requires-2
put_byte-requires-2 t c =
    let n = c.args.n in
    let before = c.put_decimal-next.ensures in
    omega (
      arith,
      c.requires,
      before.after,
      put_length before,
      ap length (decimal_long n c.if-n-lt10.false),
      length-append (decimal (n / 10)) ((48 + n % 10) ∷ []),
    )

pub returns : goal.returns
returns t c =
    rw (decimal_long c.args.n c.if-n-lt10.false)
    (put_then c.put_decimal-next.ensures c.put_byte-2.ensures)
