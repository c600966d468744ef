-- `fir_filter::singly` meets its contract: both are outputs. Assumes nothing.
use Rattle.fir_filter.proofs.singly.Goals as goal

pub returns : goal.returns
returns c = rw (c.output.ensures, c.output-2.ensures)
