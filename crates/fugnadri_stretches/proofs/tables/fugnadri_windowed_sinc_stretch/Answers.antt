-- `fugnadri_stretches::tables::fugnadri_windowed_sinc_stretch` meets its contract: it writes what the stretch gives.
-- Assumes nothing.
use Rattle.fugnadri_stretches.proofs.HandedOut.{left}
use Rattle.fugnadri_stretches.proofs.tables.fugnadri_windowed_sinc_stretch.Goals as goal

pub returns : goal.returns
returns c =
    left c.process_stretch-a.result _ _ c.process_stretch-a.ensures
