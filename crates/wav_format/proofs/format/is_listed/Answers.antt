-- `wav_format::format::is_listed` meets its contract, by the contracts of the functions that it calls. Assumes nothing.
use Rattle.wav_format.proofs.format.is_listed.Goals as goal

pub returns : goal.returns
returns c = cc
