-- `fugnadri_stretches::told::fugnadri_farrow8_stretch_told` meets its contract: it writes what `farrow8_told` gives.
-- Assumes nothing.
use Rattle.fugnadri_stretches.proofs.HandedOut.{left-told}
use Rattle.fugnadri_stretches.proofs.told.fugnadri_farrow8_stretch_told.Goals as goal

pub returns : goal.returns
returns c =
    left-told c.farrow8_told-a.result _ _ c.farrow8_told-a.ensures
