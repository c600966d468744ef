-- `wave_file::header::look_into` meets its contract, return by return. Assumes nothing.
use mathlib.Core.Path.{refl}
use Rattle.wave_file.specs.Opening.Opens.{unread, empty}
use Rattle.wave_file.proofs.header.look_into.Goals as goal

pub returns-in_default : goal.returns-in_default
returns-in_default c = unread refl

pub returns-in_default-length : goal.returns-in_default-length
returns-in_default-length c = unread refl

pub returns-then-length-eq0 : goal.returns-then-length-eq0
returns-then-length-eq0 c = empty refl

pub returns : goal.returns
returns c = c.look_behind.ensures
