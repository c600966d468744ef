-- `fugnadri_oversampled::cascaded_exports::fugnadri_cascaded_reset` meets its contract: it takes apart what was opened.
-- Assumes nothing.
use Rattle.oversampled_codes.specs.Openings.{cascaded_number, cascaded_numbers}
use Rattle.oversampled_codes.proofs.Exports.{renewed, all-held-twice}
use Rattle.fugnadri_oversampled.proofs.cascaded_exports.fugnadri_cascaded_reset.Goals as goal

pub returns : goal.returns
returns c =
    let e = c.reset-o.ensures in
    renewed cascaded_number (cascaded_numbers _) e.value
    (all-held-twice (e.up1_after, (e.up2_after, (e.down2_after, (e.down1_after, e.ring_after)))))
    c.opened_number.ensures c.opened_numbers-after.ensures
