-- `true_sizes::entry_at` meets its contract by those of its calls. Assumes nothing.
use Rattle.true_sizes.proofs.entry_at.Goals as goal

pub returns : goal.returns
returns c = rw (c.low_first_u32-id.ensures, c.low_first-size.ensures)
