-- `decibels::range::in_range` meets its contract, test by test. Assumes nothing.
use mathlib.Core.Path.{◌∙◌}
use borrow.Author.Tests.{le-leb, lt-leb}
use Rattle.decibels.proofs.range.in_range.Goals as goal

pub returns-then-number-gt68719476736 : goal.returns-then-number-gt68719476736
returns-then-number-gt68719476736 c = simp (lt-leb _ _ c.if-number-gt68719476736.true)

pub returns-then-differs : goal.returns-then-differs
returns-then-differs c =
    c.at_most_largest.ensures ∙ rw (le-leb _ _ c.if-number-gt68719476736.false, ← c.differs.ensures, c.if-differs.true)

pub returns : goal.returns
returns c =
    rw (le-leb _ _ c.if-number-gt68719476736.false, ← c.differs.ensures, c.if-differs.false)
