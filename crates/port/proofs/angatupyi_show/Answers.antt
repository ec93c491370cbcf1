-- `port::angatupyi_show` meets its contract: Test's answer tells where the part lies.
-- Assumes nothing.
use mathlib.Core.Path.{◌∙◌, ap}
use Rattle.port.specs.Face.{three_of_part}
use Rattle.port.proofs.Shown.{shows_told, place_fits}
use Rattle.port.proofs.angatupyi_show.Goals as goal

pub place_of-requires : goal.place_of-requires
place_of-requires c = place_fits _ _ c.args.list.now (rw c.in-Ok-Broken.field-0-is at c.in-Ok-Broken.ensures)

pub returns-in-Maker : goal.returns-in-Maker
returns-in-Maker c =
    let told = rw c.in-Ok-Broken.field-0-is at c.in-Ok-Broken.ensures in
    ap three_of_part (c.in-Maker.ensures ∙ shows_told _ _ c.args.list.now told)

pub returns-in-Depot : goal.returns-in-Depot
returns-in-Depot c =
    let told = rw c.in-Ok-Broken.field-0-is at c.in-Ok-Broken.ensures in
    ap three_of_part (c.in-Depot.ensures ∙ shows_told _ _ c.args.list.now told)

pub returns-in-Ok-Fits : goal.returns-in-Ok-Fits
returns-in-Ok-Fits c =
    let told = rw c.in-Ok-Fits.field-0-is at c.in-Ok-Fits.ensures in ap three_of_part (shows_told _ _ c.args.list.now told)

pub returns-in-Err : goal.returns-in-Err
returns-in-Err c = ap three_of_part (shows_told _ _ c.args.list.now c.in-Err.ensures)
