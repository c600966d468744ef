-- `wav_samples::floats::untested` meets its contract: each sample is what its pattern means. Assumes nothing.
use lib.Ieee.{binary32, of_bits}
use Rattle.wav_samples.proofs.floats.untested.Goals as goal

pub returns : goal.returns
returns c = c.fill_by.ensures (of_bits binary32) (λ n x l p. p)
