-- `wave_file::header::turn_by` meets its contract, by the head that was read. Assumes nothing.
use mathlib.Core.Path.{ap}
use Rattle.wave_file.specs.declared.header.Turned.TheVariants.{Walking}
use Rattle.wave_file.specs.Inside.Turns.{turned}
use Rattle.wave_file.proofs.header.turn_by.Goals as goal

pub returns : goal.returns
returns c =
    turned c.args.head.now c.requires (ap Walking c.turn.ensures)
