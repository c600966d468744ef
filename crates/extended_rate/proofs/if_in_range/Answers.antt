-- `extended_rate::if_in_range` meets its contract, by its three cases. Assumes nothing.
use borrow.Author.Tests.{le-leb, lt-leb}
use Rattle.extended_rate.proofs.if_in_range.Goals as goal

pub returns-then-d-lt8000 : goal.returns-then-d-lt8000
returns-then-d-lt8000 c = simp (lt-leb _ _ c.if-d-lt8000.true)

pub returns-then-d-gt768000 : goal.returns-then-d-gt768000
returns-then-d-gt768000 c = simp (le-leb _ _ c.if-d-lt8000.false, lt-leb _ _ c.if-d-gt768000.true)

pub returns : goal.returns
returns c = simp (le-leb _ _ c.if-d-lt8000.false, le-leb _ _ c.if-d-gt768000.false)
