-- `quality_variable_delay::opening::renew` meets its contract: its fade part is what `quality_fade::reset` leaves.
-- Assumes nothing.
use Rattle.quality_variable_delay.proofs.opening.renew.Goals as goal

pub returns : goal.returns
returns c = rw (c.reset-fade.ensures, c.fading-ruled.ensures)
