-- `fugnadri_aiff::files::sound` meets its contract, by its two cases. Assumes nothing.
use mathlib.Core.Path.{sym, ap}
use Rattle.fugnadri_aiff.specs.Doors.{sound_of}
use Rattle.fugnadri_aiff.proofs.files.sound.Goals as goal

pub returns-in-Refused : goal.returns-in-Refused
returns-in-Refused c = sym (ap sound_of c.in-Refused.is)
