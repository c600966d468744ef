-- `decibels::tenths` meets its contract, by those of the range and of the count. Assumes nothing.
use mathlib.Core.Path.{◌∙◌, sym}
use Rattle.decibels.specs.Decibels.{level_of}
use Rattle.decibels.proofs.tenths.Goals as goal

pub tenths_below-requires : goal.tenths_below-requires
tenths_below-requires c = sym c.in_range.ensures ∙ c.if-in_range.true

pub returns-then-in_range : goal.returns-then-in_range
unfolding level_of
returns-then-in_range c =
    let i = c.in_range.ensures in
    rw (← i, c.if-in_range.true, c.tenths_below.ensures)

pub returns : goal.returns
unfolding level_of
returns c = rw (← c.in_range.ensures, c.if-in_range.false)
