-- `fugnadri_oversampled::direct_exports::fugnadri_oversampled_process` meets its contract: it hands out what the reader
-- gives. Assumes nothing.
use Rattle.oversampled_codes.proofs.Exports.{direct-left}
use Rattle.fugnadri_oversampled.proofs.direct_exports.fugnadri_oversampled_process.Goals as goal

pub returns : goal.returns
returns c =
    let k = c.named-k.ensures in
    let e = c.process_sample-p.ensures in
    direct-left (rw k at e.value, (rw k at e.up_after, (rw k at e.down_after, rw k at e.ring_after)))
    (c.handed.ensures.value, (c.handed.ensures.sample_after, c.handed.ensures.accepted_after))
