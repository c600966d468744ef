-- `residual::steps::carry` meets its contract, by the test. Assumes nothing.
use Rattle.std.proofs.Common.{le-ltb, lt-ltb}
use Rattle.residual.proofs.steps.carry.Goals as goal

pub returns-then-low-added : goal.returns-then-low-added
returns-then-low-added c = rw (lt-ltb c.args.low c.args.added c.if-low-added.true)

pub returns-else-low-added : goal.returns-else-low-added
returns-else-low-added c = rw (le-ltb c.args.low c.args.added c.if-low-added.false)
