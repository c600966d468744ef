-- `remainder::absolute` meets its contract, case by case. Assumes nothing.
use denote.Floats.{passes}
use Rattle.remainder.proofs.TestCases.{negative, a-zero, the_same}
use Rattle.remainder.proofs.absolute.Goals as goal

pub returns-then-x : goal.returns-then-x
returns-then-x c = negative c.args.x c.if-x.true

pub returns-then-x-2 : goal.returns-then-x-2
returns-then-x-2 c = a-zero c.args.x (passes _ c.well_formed.0.1) c.if-x-2.true

pub returns-else-x-2 : goal.returns-else-x-2
returns-else-x-2 c = the_same c.args.x c.if-x.false c.if-x-2.false
