-- `sinc_bank_f32::build_set` meets its contract: it is `build_set_in` in the ported mode. Assumes nothing.
use Rattle.sinc_bank_f32.proofs.build_set.Goals as goal

pub returns : goal.returns
returns c = c.build_set_in.ensures
