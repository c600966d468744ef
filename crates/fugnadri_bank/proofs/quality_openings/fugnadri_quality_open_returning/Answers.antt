-- `fugnadri_bank::quality_openings::fugnadri_quality_open_returning` meets its contract: it is the opening by
-- the second rule. Assumes nothing.
use Rattle.fugnadri_bank.proofs.quality_openings.fugnadri_quality_open_returning.Goals as goal

pub returns : goal.returns
returns c = c.open_by.ensures
