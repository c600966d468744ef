-- `fugnadri_told::desks::fugnadri_desk_process_told` meets its contract: it is the call at the maximum rate.
-- Assumes nothing.
use Rattle.fugnadri_told.proofs.desks.fugnadri_desk_process_told.Goals as goal

pub returns : goal.returns
returns c = c.call_through.ensures
