-- `fugnadri_oversampled::direct_exports::fugnadri_oversampled_open` meets its contract: it takes apart what was opened.
-- Assumes nothing.
use Rattle.oversampled_codes.specs.Openings.{direct_number, direct_numbers}
use Rattle.oversampled_codes.proofs.Exports.{renewed, designed-held}
use Rattle.fugnadri_oversampled.proofs.direct_exports.fugnadri_oversampled_open.Goals as goal

pub returns : goal.returns
returns c =
    let e = c.open-o.ensures in
    renewed direct_number (direct_numbers _) e.value
    (designed-held (e.coefficients_after, (e.up_after, (e.down_after, e.ring_after))))
    c.opened_number.ensures c.opened_numbers-after.ensures
