-- `fir_filter::kept` meets its contract: its two comparisons are one comparison of the magnitude. Assumes nothing.
use lib.Ieee.{round, neg, of_bits}
use Rattle.fir_filter.specs.Filters.{kept_of}
use Rattle.fir_filter.proofs.Magnitudes.{above, under, between}
use Rattle.fir_filter.proofs.kept.Goals as goal

pub returns-then-coefficient : goal.returns-then-coefficient
unfolding kept_of round of_bits
returns-then-coefficient c = rw (above _ _ c.args.coefficient c.if-coefficient.true)

pub returns-then-coefficient-2 : goal.returns-then-coefficient-2
unfolding kept_of round neg of_bits
returns-then-coefficient-2 c = rw (under _ _ c.args.coefficient c.if-coefficient-2.true)

pub returns : goal.returns
unfolding kept_of round neg of_bits
returns c =
    rw (between _ _ c.args.coefficient c.if-coefficient.false c.if-coefficient-2.false)
