-- `fugnadri_room::rooms::fugnadri_room_ask` meets its contract, by that of `room_codes::ask`. Assumes nothing.
use Rattle.fugnadri_room.proofs.rooms.fugnadri_room_ask.Goals as goal

pub returns : goal.returns
returns c = c.ask.ensures
