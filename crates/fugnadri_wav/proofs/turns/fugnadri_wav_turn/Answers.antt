-- `fugnadri_wav::turns::fugnadri_wav_turn` meets its contract by those of its calls. Assumes nothing.
use Rattle.fugnadri_wav.proofs.turns.fugnadri_wav_turn.Goals as goal

pub returns : goal.returns
returns c =
    rw (c.flag.ensures, c.turn-after.ensures, c.seen_from-before.ensures)
