-- `wav_opening::first_refusal` meets its contract by those of its calls. Assumes nothing.
use Rattle.wav_opening.proofs.first_refusal.Goals as goal

pub returns : goal.returns
returns c = cc
