-- `wave_file::header::file_of` meets its contract, field by field. Assumes nothing.
use mir.Syntax.{w32}
use mir.ValLaws.{to_z-of_z}
use Rattle.wave_file.proofs.header.file_of.Goals as goal

pub returns : goal.returns
returns c =
    rw (c.quotient.ensures, c.frame_width-frame.ensures, to_z-of_z w32 c.args.fd c.ranges.fd)
