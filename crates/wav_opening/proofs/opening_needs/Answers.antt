-- `wav_opening::opening_needs` meets its contract by those of its calls. Assumes nothing.
use Rattle.wav_opening.proofs.opening_needs.Goals as goal

pub returns : goal.returns
returns c = cc
