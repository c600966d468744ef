-- `fugnadri_told::tables::fugnadri_windowed_sinc_process_told` meets its contract: it writes what `sinc_told` gives.
-- Assumes nothing.
use Rattle.fugnadri_told.proofs.HandedOut.{left}
use Rattle.fugnadri_told.proofs.tables.fugnadri_windowed_sinc_process_told.Goals as goal

pub returns : goal.returns
returns c =
    left c.sinc_told-t.result _ (c.sinc_told-t.ensures.value, c.sinc_told-t.ensures.ring_after)
    (c.handed.ensures.value, (c.handed.ensures.sample_after, c.handed.ensures.accepted_after))
