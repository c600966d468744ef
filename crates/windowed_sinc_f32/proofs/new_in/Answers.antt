-- `windowed_sinc_f32::new_in` meets its contract, by the cases of the refusal. Assumes nothing.
use Rattle.windowed_sinc_f32.proofs.new_in.Goals as goal

pub returns : goal.returns
returns c = rw c.refusal-no.ensures at c.build.ensures
