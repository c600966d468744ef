-- `windowed_sinc::new` meets its contract: it is `new_in` in the ported mode. Assumes nothing.
use Rattle.windowed_sinc.proofs.new.Goals as goal

pub returns : goal.returns
returns c = c.new_in.ensures
