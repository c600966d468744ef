-- `file_turns::as_wave` meets its contract, by what was found. Assumes nothing.
use mathlib.Core.Path.{sym, ap}
use Rattle.file_turns.specs.Turns.{as_wave}
use Rattle.file_turns.proofs.as_wave.Goals as goal

pub returns-in-Sound : goal.returns-in-Sound
returns-in-Sound c = rw c.wave_of.ensures (ap as_wave (sym c.in-Sound.is))

pub returns-in-Refused : goal.returns-in-Refused
returns-in-Refused c = ap as_wave (sym c.in-Refused.is)
