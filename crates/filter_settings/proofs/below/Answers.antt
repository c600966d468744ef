-- `filter_settings::below` meets its contract, test by test. Assumes nothing.
use Rattle.filter_settings.proofs.below.Goals as goal

pub returns-then-low-x : goal.returns-then-low-x
returns-then-low-x c = rw c.if-low-x.true

pub returns-else-low-x : goal.returns-else-low-x
returns-else-low-x c = rw c.if-low-x.false
