-- `fugnadri_numbers::numbers::fugnadri_clamp` meets its contract, by the contracts of the functions that it calls,
-- which have no premises. Assumes nothing.
use Rattle.fugnadri_numbers.proofs.numbers.fugnadri_clamp.Goals as goal

pub returns : goal.returns
returns c = cc
