-- `spelling::in_name` meets its contract: the tests of the code are the definition's. Assumes nothing.
use borrow.Author.Tests.{lt-ltb, le-ltb}
use Rattle.spelling.proofs.in_name.Goals as goal

pub returns-then-c-lt65 : goal.returns-then-c-lt65
returns-then-c-lt65 c = simp (lt-ltb _ _ c.if-c-lt91.true, lt-ltb _ _ c.if-c-lt65.true)

pub returns-then-c-lt91 : goal.returns-then-c-lt91
returns-then-c-lt91 c = simp (lt-ltb _ _ c.if-c-lt91.true, le-ltb _ _ c.if-c-lt65.false)

pub returns-then-c-lt97 : goal.returns-then-c-lt97
returns-then-c-lt97 c = simp (le-ltb _ _ c.if-c-lt91.false, lt-ltb _ _ c.if-c-lt97.true)

pub returns : goal.returns
returns c = simp (le-ltb _ _ c.if-c-lt91.false, le-ltb _ _ c.if-c-lt97.false)
