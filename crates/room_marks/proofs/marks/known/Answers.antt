-- `room_marks::marks::known` meets its contract: the number is one of the two desks'. Assumes nothing.
use Rattle.room_marks.proofs.marks.known.Goals as goal

pub returns : goal.returns
returns c = rw (c.number-2.ensures, c.number.ensures) at c.either.ensures
