-- `wav_opening::is_wave` meets its contract by those of its calls. Assumes nothing.
use Rattle.wav_opening.proofs.is_wave.Goals as goal

pub returns : goal.returns
returns c = cc
