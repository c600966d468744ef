-- `cubic_farrow_f32::one_by_one` meets its contract: the indices fit, and each tap is the definition's, by the law for
-- either width. Assumes nothing.
use lib.Dec.{lit≤}
use lib.IntN.{pos, negsuc}
use lib.Ieee.{binary32}
use Rattle.cubic_farrow.proofs.FourTaps.{near, four-tested}
use Rattle.cubic_farrow_f32.proofs.one_by_one.Goals as goal

pub returns : goal.returns
returns c =
    four-tested c.ranges.i c.requires binary32 c.args.mu c.args.source.now c.args.count
    c.tap_f32-xm1.ensures c.tap_f32-x0.ensures c.tap_f32-x1.ensures
    c.tap_f32-x2.ensures c.weigh.ensures

pub overflow_sub-i : goal.overflow_sub-i
overflow_sub-i c = near c.ranges.i c.requires (negsuc 0) (lit≤ tt)

pub overflow_add-i : goal.overflow_add-i
overflow_add-i c = near c.ranges.i c.requires (pos 1) (lit≤ tt)

pub overflow_add-i-2 : goal.overflow_add-i-2
overflow_add-i-2 c = near c.ranges.i c.requires (pos 2) (lit≤ tt)
