-- `fugnadri_bank::quality::fugnadri_quality_process` meets its contract: it is the call at the bank's maximum rate.
-- Assumes nothing.
use Rattle.fugnadri_bank.proofs.quality.fugnadri_quality_process.Goals as goal

pub returns : goal.returns
returns c = c.call_through.ensures
