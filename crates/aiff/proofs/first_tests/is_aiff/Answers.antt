-- `aiff::first_tests::is_aiff` meets its contract, by the contracts of the functions that it calls. Assumes nothing.
use Rattle.aiff.specs.Aiff.{is_aiff}
use Rattle.aiff.proofs.first_tests.is_aiff.Goals as goal

pub returns : goal.returns
unfolding is_aiff
returns c = cc
