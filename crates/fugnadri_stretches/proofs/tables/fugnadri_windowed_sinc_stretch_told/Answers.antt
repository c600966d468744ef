-- `fugnadri_stretches::tables::fugnadri_windowed_sinc_stretch_told` meets its contract: it writes what `sinc_told`
-- gives. Assumes nothing.
use Rattle.fugnadri_stretches.proofs.HandedOut.{left-told}
use Rattle.fugnadri_stretches.proofs.tables.fugnadri_windowed_sinc_stretch_told.Goals as goal

pub returns : goal.returns
returns c =
    left-told c.sinc_told-a.result _ _ c.sinc_told-a.ensures
