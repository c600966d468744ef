-- `modulation_sample::same` meets its contract: the patterns are compared only if the numbers are equal. Assumes
-- nothing.
use Rattle.modulation_sample.proofs.same.Goals as goal

pub returns-then-a-b : goal.returns-then-a-b
returns-then-a-b c = rw (c.bits_of-then-a-b.ensures, c.bits_of.ensures, c.if-a-b.true)

pub returns-else-a-b : goal.returns-else-a-b
returns-else-a-b c = rw c.if-a-b.false
