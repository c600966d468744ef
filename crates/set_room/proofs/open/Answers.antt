-- `set_room::open` meets its contract, by that of `room_grants::open`. Assumes nothing.
use borrow.Author.Rules.{rules}
use Rattle.set_room.specs.Room.{opened}
use Rattle.set_room.proofs.open.Goals as goal

pub returns : goal.returns
unfolding opened
returns c =
    let o = c.open.ensures in
    record { value = o.value; slots_after = rw (o.rates_after, o.marks_after) }
