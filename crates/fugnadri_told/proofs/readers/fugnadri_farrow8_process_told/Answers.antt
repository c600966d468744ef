-- `fugnadri_told::readers::fugnadri_farrow8_process_told` meets its contract: it writes what `farrow8_told` gives.
-- Assumes nothing.
use Rattle.fugnadri_told.proofs.HandedOut.{left}
use Rattle.fugnadri_told.proofs.readers.fugnadri_farrow8_process_told.Goals as goal

pub returns : goal.returns
returns c =
    left c.farrow8_told-t.result _ (c.farrow8_told-t.ensures.value, c.farrow8_told-t.ensures.ring_after)
    (c.handed.ensures.value, (c.handed.ensures.sample_after, c.handed.ensures.accepted_after))
