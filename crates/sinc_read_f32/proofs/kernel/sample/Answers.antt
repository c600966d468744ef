-- `sinc_read_f32::kernel::sample` meets its contract, by the number of the refusal and what `read` gives. Assumes
-- nothing.
use Rattle.sinc_read_f32.proofs.kernel.sample.Goals as goal

pub returns : goal.returns
returns c = rw (c.answered_f32.ensures, c.refusal-no.ensures, c.read.ensures)
