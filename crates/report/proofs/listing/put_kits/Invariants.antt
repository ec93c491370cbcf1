-- The loop's invariant: the first k kits are put, and the next one is at hand if there is one.
-- Assumes nothing.
use Rattle.spec.specs.Kits.{kits}
use Rattle.report.proofs.Showing.{Showing}
use Rattle.report.proofs.listing.put_kits.Given as goal

abbrev pub invariant-loop-k : goal.invariant-loop-k
invariant-loop-k l = Showing (kits l.maker l.depot l.sheet) l.initial.out l.start l.kit l.out l.at l.k l.found
