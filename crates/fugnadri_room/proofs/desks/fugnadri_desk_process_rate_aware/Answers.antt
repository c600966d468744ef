-- `fugnadri_room::desks::fugnadri_desk_process_rate_aware` meets its contract, by that of `call_through`. Assumes
-- nothing.
use Rattle.fugnadri_room.proofs.desks.fugnadri_desk_process_rate_aware.Goals as goal

pub returns : goal.returns
returns c = c.call_through.ensures
