-- `wav::first_tests::is_wave` meets its contract, by the contracts of the functions that it calls. Assumes nothing.
use Rattle.wav.specs.Wave.{is_wave}
use Rattle.wav.proofs.first_tests.is_wave.Goals as goal

pub returns : goal.returns
unfolding is_wave
returns c = cc
