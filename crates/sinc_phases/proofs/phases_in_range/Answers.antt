-- `sinc_phases::phases_in_range` meets its contract, by the first test. Assumes nothing.
use Rattle.sinc_phases.proofs.phases_in_range.Goals as goal

pub returns-then-phases_ok : goal.returns-then-phases_ok
returns-then-phases_ok c = rw (← c.phases_ok.ensures, c.if-phases_ok.true) c.position_ok.ensures

pub returns-else-phases_ok : goal.returns-else-phases_ok
returns-else-phases_ok c = rw (← c.phases_ok.ensures, c.if-phases_ok.false)
