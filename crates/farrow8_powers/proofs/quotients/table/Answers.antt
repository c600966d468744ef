-- `farrow8_powers::quotients::table` meets its contract: the constant's quotients are the table's, by computing.
-- Assumes nothing.
use mathlib.Core.Path.{refl}
use lib.Ieee.{div, of_int, of_bits}
use Rattle.farrow8_powers.specs.Table.{quotients}
use Rattle.farrow8_powers.proofs.quotients.table.Goals as goal

pub returns : goal.returns
unfolding quotients div of_int of_bits
returns c = refl
