-- `progress::put_progress` meets its contract, by what the functions that it calls ensure. Assumes nothing.
use Rattle.progress.proofs.put_progress.Goals as goal

pub returns : goal.returns
returns c = rw (← c.hundredths-n.ensures) c.put_percent.ensures
