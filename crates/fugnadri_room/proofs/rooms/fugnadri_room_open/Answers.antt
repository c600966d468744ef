-- `fugnadri_room::rooms::fugnadri_room_open` meets its contract, by that of `set_room::open`. Assumes nothing.
use Rattle.fugnadri_room.proofs.rooms.fugnadri_room_open.Goals as goal

pub returns : goal.returns
returns c = c.open.ensures
