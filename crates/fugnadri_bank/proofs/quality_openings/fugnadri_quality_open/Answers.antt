-- `fugnadri_bank::quality_openings::fugnadri_quality_open` meets its contract: it is the opening by
-- the ported rule. Assumes nothing.
use Rattle.fugnadri_bank.proofs.quality_openings.fugnadri_quality_open.Goals as goal

pub returns : goal.returns
returns c = c.open_by.ensures
