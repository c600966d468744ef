-- `fugnadri_wav::turns::seen_from` meets its contract by those of its calls. Assumes nothing.
use Rattle.fugnadri_wav.proofs.turns.seen_from.Goals as goal

pub returns : goal.returns
returns c = rw (c.spot_from-f.ensures, c.spot_from-s.ensures)
