-- `fugnadri_stretches::quality::fugnadri_quality_stretch` meets its contract, by that of `stretch_through`. Assumes
-- nothing.
use Rattle.fugnadri_stretches.proofs.quality.fugnadri_quality_stretch.Goals as goal

pub returns : goal.returns
returns c = c.stretch_through.ensures
