-- `fugnadri_oversampled::cascaded_exports::fugnadri_cascaded_process` meets its contract: it hands out what the reader
-- gives. Assumes nothing.
use Rattle.oversampled_codes.proofs.Exports.{cascaded-left}
use Rattle.fugnadri_oversampled.proofs.cascaded_exports.fugnadri_cascaded_process.Goals as goal

pub returns : goal.returns
returns c =
    let k = c.named-k.ensures in
    let e = c.process_sample-p.ensures in
    cascaded-left (
      rw k at e.value,
      (
        rw k at e.up1_after,
        (rw k at e.up2_after, (rw k at e.down2_after, (rw k at e.down1_after, rw k at e.ring_after))),
      ),
    )
    (c.handed.ensures.value, (c.handed.ensures.sample_after, c.handed.ensures.accepted_after))
