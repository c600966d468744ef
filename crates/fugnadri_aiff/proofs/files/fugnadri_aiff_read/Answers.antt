-- `fugnadri_aiff::files::fugnadri_aiff_read` meets its contract: what is handed out is what was found. Assumes nothing.
use mathlib.Core.Path.{ap}
use Rattle.fugnadri_aiff.specs.Doors.{left_by}
use Rattle.fugnadri_aiff.proofs.files.fugnadri_aiff_read.Goals as goal

pub returns : goal.returns
returns c =
    rw (c.number.ensures, c.code.ensures, c.sound-f.ensures) (ap left_by c.read-found.ensures)
