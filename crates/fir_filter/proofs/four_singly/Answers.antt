-- `fir_filter::four_singly` meets its contract: all are outputs. Assumes nothing.
use Rattle.fir_filter.proofs.four_singly.Goals as goal

pub returns : goal.returns
returns c =
    rw (c.output.ensures, c.output-2.ensures, c.output-3.ensures, c.output-4.ensures)
