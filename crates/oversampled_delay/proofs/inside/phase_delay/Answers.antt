-- `oversampled_delay::inside::phase_delay` meets its contract: the cast is exact. Assumes nothing.
use Rattle.std.proofs.Common.{refl}
use Rattle.oversampled_delay.proofs.inside.phase_delay.Goals as goal

pub returns : goal.returns
returns c = refl
