-- `fugnadri_wander::wander::fugnadri_engine_next` meets its contract, by the contracts of the functions that it calls,
-- which have no premises. Assumes nothing.
use Rattle.fugnadri_wander.proofs.wander.fugnadri_engine_next.Goals as goal

pub returns : goal.returns
returns c =
    let p = c.settings_of-params.ensures in
    rw (c.next.ensures, p)
