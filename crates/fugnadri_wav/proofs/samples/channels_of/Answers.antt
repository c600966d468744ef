-- `fugnadri_wav::samples::channels_of` meets its contract, by its two cases. Assumes nothing.
use borrow.Author.Tests.{le-leb, lt-leb}
use Rattle.fugnadri_wav.proofs.samples.channels_of.Goals as goal

pub returns-then-code-le2 : goal.returns-then-code-le2
returns-then-code-le2 c = simp (le-leb _ _ c.if-code-le2.true)

pub returns-else-code-le2 : goal.returns-else-code-le2
returns-else-code-le2 c = simp (lt-leb _ _ c.if-code-le2.false)
