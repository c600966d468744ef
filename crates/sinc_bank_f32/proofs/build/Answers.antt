-- `sinc_bank_f32::build` meets its contract: it is `build_in` in the ported mode. Assumes nothing.
use Rattle.sinc_bank_f32.proofs.build.Goals as goal

pub returns : goal.returns
returns c = c.build_in.ensures
