-- `fugnadri_numbers::bits::fugnadri_fused64_bits` meets its contract, by the contracts of the functions that it calls,
-- which have no premises. Assumes nothing.
use Rattle.fugnadri_numbers.proofs.bits.fugnadri_fused64_bits.Goals as goal

pub returns : goal.returns
returns c = cc
