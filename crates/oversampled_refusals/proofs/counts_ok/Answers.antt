-- `oversampled_refusals::counts_ok` meets its contract, by the outer number. Assumes nothing.
use borrow.Author.Tests.{le-leb, lt-leb}
use Rattle.oversampled_refusals.proofs.counts_ok.Goals as goal

pub returns-then-accepted-le-OUTER_LIMIT : goal.returns-then-accepted-le-OUTER_LIMIT
returns-then-accepted-le-OUTER_LIMIT c h = rw (c.inner_ok.ensures h, le-leb _ _ c.if-accepted-le-OUTER_LIMIT.true)

pub returns : goal.returns
returns c h = rw (lt-leb _ _ c.if-accepted-le-OUTER_LIMIT.false)

pub inner_ok-requires : goal.inner_ok-requires
inner_ok-requires c = c.if-accepted-le-OUTER_LIMIT.true
