-- `sinc_row::coefficient_at` meets its contract, by its test. Assumes nothing.
use borrow.Author.Tests.{not-true, not-false}
use mathlib.Core.Path.{sym, ◌∙◌}
use lib.Dec.{lit≤}
use lib.Ieee.{of_bits, neg}
use Rattle.magnitude.proofs.OrderAndBounds.{within-at-most}
use Rattle.sinc_row.proofs.coefficient_at.Goals as goal

pub returns-then-not-within : goal.returns-then-not-within
unfolding of_bits neg
returns-then-not-within c = rw (← c.within.ensures, not-true c.within.result c.if-not-within.true-raw)

pub coefficient-requires : goal.coefficient-requires
unfolding of_bits neg
coefficient-requires c =
    within-at-most 65 _ _ _ (lit≤ tt) (lit≤ tt) (sym c.within.ensures ∙ not-false _ c.if-not-within.false-raw)

pub returns : goal.returns
unfolding of_bits neg
returns c =
    c.coefficient.ensures ∙ rw (← c.within.ensures, not-false c.within.result c.if-not-within.false-raw)
