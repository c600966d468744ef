-- `oscillator_ranges::cycle_ok` meets its contract: the second test counts only if the first has passed. Assumes
-- nothing.
use Rattle.oscillator_ranges.proofs.cycle_ok.Goals as goal

pub returns-then-phase : goal.returns-then-phase
returns-then-phase c = rw c.if-phase.true

pub returns-else-phase : goal.returns-else-phase
returns-else-phase c = rw c.if-phase.false
