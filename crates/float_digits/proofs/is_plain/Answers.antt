-- `float_digits::is_plain` meets its contract. Assumes nothing.
use Rattle.float_digits.proofs.PlainValues.{plain-inside, plain-below, plain-above}
use Rattle.float_digits.proofs.is_plain.Goals as goal

pub returns-then-x-2 : goal.returns-then-x-2
returns-then-x-2 c = plain-inside c.args.x c.if-x.true c.if-x-2.true

pub returns-else-x-2 : goal.returns-else-x-2
returns-else-x-2 c = plain-below c.args.x c.if-x.true c.if-x-2.false

pub returns-else-x : goal.returns-else-x
returns-else-x c = plain-above c.args.x c.if-x.false
