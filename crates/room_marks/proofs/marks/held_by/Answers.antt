-- `room_marks::marks::held_by` meets its contract, by the two desks. Assumes nothing.
use Rattle.room_marks.proofs.marks.held_by.Goals as goal

pub returns-in-One : goal.returns-in-One
returns-in-One c = rw c.in-One.is c.either.ensures

pub returns-in-Two : goal.returns-in-Two
returns-in-Two c = rw c.in-Two.is
