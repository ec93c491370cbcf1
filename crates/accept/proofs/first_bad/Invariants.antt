use Rattle.std.proofs.Common.{◌≡◌, ℕ, ◌<◌, false}
use Rattle.spec.specs.Records.{bad, record_at}
use Rattle.accept.proofs.first_bad.Given as goal

abbrev pub invariant-loop-i : goal.invariant-loop-i
invariant-loop-i l = (r : ℕ) → r < l.i → bad l.n (record_at l.maker l.depot r) ≡ false
