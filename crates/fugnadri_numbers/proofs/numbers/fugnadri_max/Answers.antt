-- `fugnadri_numbers::numbers::fugnadri_max` meets its contract, by the contracts of the functions that it calls, which
-- have no premises. Assumes nothing.
use Rattle.fugnadri_numbers.proofs.numbers.fugnadri_max.Goals as goal

pub returns : goal.returns
returns c = cc
