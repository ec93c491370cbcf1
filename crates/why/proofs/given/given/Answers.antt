-- `why::given::given` meets its contract: the states that are read are a sheet's.
-- Assumes nothing.
use Rattle.why.proofs.Asked.{beside_x, beside_y, beside_z}
use Rattle.why.proofs.given.given.Goals as goal

pub given_side-requires : goal.given_side-requires
given_side-requires c = beside_x _ c.requires.q_value c.requires.cells

pub given_side-requires-then-b-q-2 : goal.given_side-requires-then-b-q-2
given_side-requires-then-b-q-2 c = beside_y _ c.requires.q_value c.requires.cells

pub given_z-requires : goal.given_z-requires
given_z-requires c = beside_z _ c.requires.q_value c.requires.cells
