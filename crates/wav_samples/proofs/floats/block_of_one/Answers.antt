-- `wav_samples::floats::block_of_one` meets its contract, whether or not all are known to be numbers. Assumes nothing.
use Rattle.wav_samples.proofs.floats.block_of_one.Goals as goal

pub untested-requires : goal.untested-requires
untested-requires c =
    (c.requires.0, c.numbers.ensures c.if-numbers.true)
