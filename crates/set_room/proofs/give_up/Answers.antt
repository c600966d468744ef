-- `set_room::give_up` meets its contract, by that of `room_grants::give_up`. Assumes nothing.
use borrow.Author.Rules.{rules}
use Rattle.set_room.specs.Room.{gave_up}
use Rattle.set_room.proofs.give_up.Goals as goal

pub returns : goal.returns
unfolding gave_up
returns c = let g = c.give_up.ensures in record { value = g.value; slots_after = rw g.marks_after }
