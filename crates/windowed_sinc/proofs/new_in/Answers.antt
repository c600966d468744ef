-- `windowed_sinc::new_in` meets its contract, by the cases of the refusal. Assumes nothing.
use Rattle.windowed_sinc.proofs.new_in.Goals as goal

pub returns : goal.returns
returns c = rw c.refusal-no.ensures at c.build.ensures
