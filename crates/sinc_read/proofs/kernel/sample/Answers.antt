-- `sinc_read::kernel::sample` meets its contract, by the refusal and by what `read` gives. Assumes nothing.
use Rattle.sinc_read.proofs.kernel.sample.Goals as goal

pub returns : goal.returns
returns c = rw (c.answered.ensures, c.refusal-no.ensures, c.read.ensures)
