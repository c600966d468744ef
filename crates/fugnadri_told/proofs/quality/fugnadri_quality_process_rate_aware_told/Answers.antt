-- `fugnadri_told::quality::fugnadri_quality_process_rate_aware_told` meets its contract, by that of the call. Assumes
-- nothing.
use Rattle.fugnadri_told.proofs.quality.fugnadri_quality_process_rate_aware_told.Goals as goal

pub returns : goal.returns
returns c = c.call_through.ensures
