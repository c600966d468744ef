-- `wave_file::open` meets its contract: the answer is that of `look_into`, or that the file cannot be opened. Assumes
-- nothing.
use mathlib.Core.Path.{refl}
use Rattle.wave_file.specs.Opening.Opens.{unread}
use Rattle.wave_file.proofs.open.Goals as goal

pub returns-then-fd-lt0 : goal.returns-then-fd-lt0
returns-then-fd-lt0 c = unread refl
