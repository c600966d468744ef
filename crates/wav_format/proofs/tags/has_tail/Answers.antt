-- `wav_format::tags::has_tail` meets its contract, by the contracts of the functions that it calls. Assumes nothing.
use Rattle.wav_format.proofs.tags.has_tail.Goals as goal

pub returns : goal.returns
returns c = cc
