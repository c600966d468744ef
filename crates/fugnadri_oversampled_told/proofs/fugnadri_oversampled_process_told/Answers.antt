-- `fugnadri_oversampled_told::fugnadri_oversampled_process_told` meets its contract: it hands out what the reader
-- gives. Assumes nothing.
use Rattle.fugnadri_oversampled_told.proofs.HandedOut.{direct-told}
use Rattle.fugnadri_oversampled_told.proofs.fugnadri_oversampled_process_told.Goals as goal

pub returns : goal.returns
returns c =
    let k = c.named-k in
    direct-told c.oversampled_told-t.result _ (rw k.ensures at c.oversampled_told-t.ensures)
    (c.handed.ensures.value, (c.handed.ensures.sample_after, c.handed.ensures.accepted_after))
