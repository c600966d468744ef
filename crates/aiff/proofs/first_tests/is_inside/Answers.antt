-- `aiff::first_tests::is_inside` meets its contract, by the contracts of the functions that it calls. Assumes nothing.
use Rattle.aiff.proofs.first_tests.is_inside.Goals as goal

pub returns : goal.returns
returns c = cc
