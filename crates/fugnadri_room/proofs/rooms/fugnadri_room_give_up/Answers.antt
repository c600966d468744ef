-- `fugnadri_room::rooms::fugnadri_room_give_up` meets its contract, by that of `room_codes::give_up`. Assumes nothing.
use Rattle.fugnadri_room.proofs.rooms.fugnadri_room_give_up.Goals as goal

pub returns : goal.returns
returns c = c.give_up.ensures
