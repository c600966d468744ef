-- `desk_delay::refused::in_room` meets its contract, by its test. Assumes nothing.
use Rattle.desk_delay.proofs.refused.in_room.Goals as goal

pub returns-then-whole : goal.returns-then-whole
returns-then-whole c = rw c.if-whole.true

pub returns : goal.returns
returns c = rw c.if-whole.false c.number.ensures
