-- `fugnadri_stretches::quality::fugnadri_quality_stretch_told` meets its contract, by that of `stretch_told_through`.
-- Assumes nothing.
use Rattle.fugnadri_stretches.proofs.quality.fugnadri_quality_stretch_told.Goals as goal

pub returns : goal.returns
returns c = c.stretch_told_through.ensures
