-- `square_root::square_root` meets its contract, case by case. Assumes nothing.
use Rattle.square_root.proofs.SpecialCases.{above_zero, at-infinity, at_zero, below-zero}
use Rattle.square_root.proofs.square_root.Goals as goal

pub positive_root-requires : goal.positive_root-requires
positive_root-requires c = above_zero c.args.x c.if-x.true c.if-x-2.true

pub returns-then-x : goal.returns-then-x
returns-then-x c = at-infinity c.args.x c.if-x.true c.if-x-2.false

pub returns-then-x-3 : goal.returns-then-x-3
returns-then-x-3 c = at_zero c.args.x c.if-x-3.true

pub returns : goal.returns
returns c = below-zero c.args.x c.if-x.false c.if-x-3.false
