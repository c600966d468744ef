-- `fugnadri_bank::quality::fugnadri_quality_process_rate_aware` meets its contract, by that of `call_at_once`. Assumes
-- nothing.
use Rattle.fugnadri_bank.proofs.quality.fugnadri_quality_process_rate_aware.Goals as goal

pub returns : goal.returns
returns c = c.call_at_once.ensures
