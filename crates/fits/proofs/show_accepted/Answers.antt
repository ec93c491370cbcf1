-- `fits::show_accepted` meets its contract: a broken record's bytes lie whole in the table that is shown.
-- Assumes nothing.
use mathlib.Core.Path.{◌≡◌}
use mathlib.Core.List.{List}
use Prim.Native.Nat.{ℕ}
use native.Mathlib.Omega.{arith}
use Rattle.std.proofs.Common.{Some}
use Rattle.lemmas.specs.Lowest.{if_below}
use Rattle.lemmas.proofs.Lowest.{some_below}
use Rattle.spec.specs.Records.{record_count}
use Rattle.spec.specs.Fits.{Part, first_broken, record_part}
use Rattle.spec.proofs.Accepted.{WholeRecords}
use Rattle.records.proofs.Tables.{LiesIn, lies}
use Rattle.fits.proofs.show_accepted.Goals as goal

-- the first broken record lies where `place_of` says
lies_whole : {maker depot : List ℕ} (l : List ℕ) {i : ℕ} {p : Part} → WholeRecords maker depot →
    Some i ≡ if_below (first_broken maker depot l) (record_count maker depot) → p ≡ record_part maker i → LiesIn maker depot i p
lies_whole {maker} {depot} l whole found is =
    let at = some_below (first_broken maker depot l) (record_count maker depot) found in lies whole (omega arith) is

pub overflow_add-result : goal.overflow_add-result
overflow_add-result c =
    let at = lies_whole _ c.args.t.accepted.whole c.in-Some.ensures c.in-Maker.ensures in omega (arith, at.within)

pub slice_bounds-result-end-in-Maker : goal.slice_bounds-result-end-in-Maker
slice_bounds-result-end-in-Maker c =
    let at = lies_whole _ c.args.t.accepted.whole c.in-Some.ensures c.in-Maker.ensures in omega (arith, at.within)

pub overflow_add-result-in-Depot : goal.overflow_add-result-in-Depot
overflow_add-result-in-Depot c =
    let at = lies_whole _ c.args.t.accepted.whole c.in-Some.ensures c.in-Depot.ensures in omega (arith, at.within)

pub slice_bounds-result-end-in-Depot : goal.slice_bounds-result-end-in-Depot
slice_bounds-result-end-in-Depot c =
    let at = lies_whole _ c.args.t.accepted.whole c.in-Some.ensures c.in-Depot.ensures in omega (arith, at.within)
