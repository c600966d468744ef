-- `fugnadri_told::desks::fugnadri_desk_process_rate_aware_told` meets its contract, by that of the call. Assumes
-- nothing.
use Rattle.fugnadri_told.proofs.desks.fugnadri_desk_process_rate_aware_told.Goals as goal

pub returns : goal.returns
returns c = c.call_through.ensures
