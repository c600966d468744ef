-- `windowed_sinc_f32::for_max_rate` meets its contract: it is `for_max_rate_in` in the ported mode. Assumes nothing.
use Rattle.windowed_sinc_f32.proofs.for_max_rate.Goals as goal

pub returns : goal.returns
returns c = c.for_max_rate_in.ensures
