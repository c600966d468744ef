-- `fugnadri_stretches::told::fugnadri_lagrange_stretch_told` meets its contract: it writes what `lagrange_told` gives.
-- Assumes nothing.
use Rattle.fugnadri_stretches.proofs.HandedOut.{left-told}
use Rattle.fugnadri_stretches.proofs.told.fugnadri_lagrange_stretch_told.Goals as goal

pub returns : goal.returns
returns c =
    left-told c.lagrange_told-a.result _ _ c.lagrange_told-a.ensures
