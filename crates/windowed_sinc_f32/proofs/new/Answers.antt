-- `windowed_sinc_f32::new` meets its contract: it is `new_in` in the ported mode. Assumes nothing.
use Rattle.windowed_sinc_f32.proofs.new.Goals as goal

pub returns : goal.returns
returns c = c.new_in.ensures
