-- `fugnadri_wav::files::hand_out` meets its contract by those of its calls. Assumes nothing.
use Rattle.fugnadri_wav.proofs.files.hand_out.Goals as goal

pub returns : goal.returns
returns c = rw (c.number.ensures, c.code.ensures, c.wave-w.ensures)
