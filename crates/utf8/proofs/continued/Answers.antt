-- `utf8::continued` meets its contract, by the test of the byte. Assumes nothing.
use Rattle.utf8.specs.Utf8.{continues}
use Rattle.utf8.proofs.continued.Goals as goal

pub returns-then-inside : goal.returns-then-inside
unfolding continues
returns-then-inside c = rw (← c.inside.ensures, c.if-inside.true)

pub returns-else-inside : goal.returns-else-inside
unfolding continues
returns-else-inside c = rw (← c.inside.ensures, c.if-inside.false)
