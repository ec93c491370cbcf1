use Rattle.std.proofs.Common.{◌≡◌, false, ℕ, ◌<◌, ltb, get_or}
use Rattle.accept.proofs.is_any_above.Given as goal

abbrev pub invariant-loop-b : goal.invariant-loop-b
invariant-loop-b l = l.found ≡ false → (b : ℕ) → b < l.b-index → ltb l.top (get_or l.s b 0) ≡ false
