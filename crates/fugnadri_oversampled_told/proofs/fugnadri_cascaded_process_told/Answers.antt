-- `fugnadri_oversampled_told::fugnadri_cascaded_process_told` meets its contract: it hands out what the reader gives.
-- Assumes nothing.
use Rattle.fugnadri_oversampled_told.proofs.HandedOut.{cascaded-told}
use Rattle.fugnadri_oversampled_told.proofs.fugnadri_cascaded_process_told.Goals as goal

pub returns : goal.returns
returns c =
    let k = c.named-k in
    cascaded-told c.cascaded_told-t.result _ (rw k.ensures at c.cascaded_told-t.ensures)
    (c.handed.ensures.value, (c.handed.ensures.sample_after, c.handed.ensures.accepted_after))
