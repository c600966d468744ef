-- `fugnadri_stretches::told::fugnadri_cubic_stretch_told` meets its contract: it writes what `cubic_told` gives.
-- Assumes nothing.
use Rattle.fugnadri_stretches.proofs.HandedOut.{left-told}
use Rattle.fugnadri_stretches.proofs.told.fugnadri_cubic_stretch_told.Goals as goal

pub returns : goal.returns
returns c =
    left-told c.cubic_told-a.result _ _ c.cubic_told-a.ensures
