-- `fugnadri_told::quality::fugnadri_quality_process_told` meets its contract: it is the call at the bank's maximum
-- rate. Assumes nothing.
use Rattle.fugnadri_told.proofs.quality.fugnadri_quality_process_told.Goals as goal

pub returns : goal.returns
returns c = c.call_through.ensures
