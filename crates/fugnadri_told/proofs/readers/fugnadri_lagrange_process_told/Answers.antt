-- `fugnadri_told::readers::fugnadri_lagrange_process_told` meets its contract: it writes what `lagrange_told` gives.
-- Assumes nothing.
use Rattle.fugnadri_told.proofs.HandedOut.{left}
use Rattle.fugnadri_told.proofs.readers.fugnadri_lagrange_process_told.Goals as goal

pub returns : goal.returns
returns c =
    left c.lagrange_told-t.result _ (c.lagrange_told-t.ensures.value, c.lagrange_told-t.ensures.ring_after)
    (c.handed.ensures.value, (c.handed.ensures.sample_after, c.handed.ensures.accepted_after))
