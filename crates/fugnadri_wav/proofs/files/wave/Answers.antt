-- `fugnadri_wav::files::wave` meets its contract, by its two cases. Assumes nothing.
use mathlib.Core.Path.{sym, ap}
use Rattle.fugnadri_wav.specs.Exports.{wave_of}
use Rattle.fugnadri_wav.proofs.files.wave.Goals as goal

pub returns-in-Refused : goal.returns-in-Refused
returns-in-Refused c = sym (ap wave_of c.in-Refused.is)
