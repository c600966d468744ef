-- `wav_opening::has_ds64` meets its contract by those of its calls. Assumes nothing.
use Rattle.wav_opening.proofs.has_ds64.Goals as goal

pub returns : goal.returns
returns c = cc
