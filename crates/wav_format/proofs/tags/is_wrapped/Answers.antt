-- `wav_format::tags::is_wrapped` meets its contract, by the contracts of the functions that it calls. Assumes nothing.
use Rattle.wav_format.specs.Tags.{wraps}
use Rattle.wav_format.proofs.tags.is_wrapped.Goals as goal

pub returns : goal.returns
unfolding wraps
returns c = cc
