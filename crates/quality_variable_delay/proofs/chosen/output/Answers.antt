-- `quality_variable_delay::chosen::output` meets its contract: each reading is that of the chosen sets. Assumes
-- nothing.
use Rattle.quality_variable_delay.proofs.chosen.output.Goals as goal

pub returns-then-turn : goal.returns-then-turn
returns-then-turn c =
    rw c.if-turn.true (rw (c.mix.ensures, c.read-b.ensures, c.read-a.ensures))

pub returns : goal.returns
returns c = rw c.if-turn.false c.read.ensures
