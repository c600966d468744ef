-- `aiff_turns::start` meets its contract, by the contracts of the functions that it calls. Assumes nothing.
use Rattle.aiff_turns.proofs.start.Goals as goal

pub returns : goal.returns
returns c = rw (c.due.ensures, c.is_aiff.ensures, c.four.ensures)
