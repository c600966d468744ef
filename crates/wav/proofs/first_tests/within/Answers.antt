-- `wav::first_tests::within` meets its contract, by the contracts of the functions that it calls. Assumes nothing.
use Rattle.wav.proofs.first_tests.within.Goals as goal

pub returns : goal.returns
returns c = cc
