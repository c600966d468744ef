-- `wav_turns::start` meets its contract, by the contracts of the functions that it calls. Assumes nothing.
use Rattle.wav_turns.proofs.start.Goals as goal

pub returns : goal.returns
returns c = rw (c.due.ensures, c.is_wave.ensures, c.low_first_u32.ensures)
