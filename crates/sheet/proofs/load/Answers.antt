-- `sheet::load` meets its contract: the sheet is copied over 256 open boxes.
-- Assumes nothing.
use Rattle.sheet.proofs.Copied.{loaded_copy}
use Rattle.sheet.proofs.load.Goals as goal

pub returns : goal.returns
returns c =
    rw c.copy_from_slice.ensures.after (loaded_copy c.args.sheet.now c.requires.sheet_len_bound c.requires.states_value)
