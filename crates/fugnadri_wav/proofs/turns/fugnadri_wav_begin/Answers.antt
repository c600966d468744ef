-- `fugnadri_wav::turns::fugnadri_wav_begin` meets its contract by those of its calls. Assumes nothing.
use Rattle.fugnadri_wav.proofs.turns.fugnadri_wav_begin.Goals as goal

pub returns : goal.returns
returns c = rw (c.begin-walking.ensures, c.begin-begun.ensures)
