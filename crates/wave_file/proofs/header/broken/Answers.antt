-- `wave_file::header::broken` meets its contract, by the number. Assumes nothing.
use mathlib.Core.Path.{refl}
use Rattle.wave_file.specs.Inside.Breaks.{unread, shorter}
use Rattle.wave_file.proofs.header.broken.Goals as goal

pub returns-then-number-eq1 : goal.returns-then-number-eq1
returns-then-number-eq1 c = unread refl

pub returns-else-number-eq1 : goal.returns-else-number-eq1
returns-else-number-eq1 c = shorter refl
