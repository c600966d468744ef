-- `wave_file::header::one_turn` meets its contract: a head was read, or the reading failed. Assumes nothing.
use mathlib.Core.Path.{refl}
use Rattle.wave_file.specs.Inside.Turns.{broken}
use Rattle.wave_file.proofs.header.one_turn.Goals as goal

pub returns-then-end-left : goal.returns-then-end-left
returns-then-end-left c = broken _ refl

pub returns-then-number-ne0 : goal.returns-then-number-ne0
returns-then-number-ne0 c = broken _ refl

pub returns : goal.returns
returns c = c.turn_by.ensures
