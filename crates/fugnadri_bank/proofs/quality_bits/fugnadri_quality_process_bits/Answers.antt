-- `fugnadri_bank::quality_bits::fugnadri_quality_process_bits` meets its contract, by that of the call; the sample
-- becomes a bit pattern. Assumes nothing.
use lib.Ieee.{binary32}
use Rattle.answer_parts.proofs.LeftByExports.{in-bits}
use Rattle.fugnadri_bank.proofs.quality_bits.fugnadri_quality_process_bits.Goals as goal

pub returns : goal.returns
returns c = in-bits binary32 c.call_through-no.ensures c.bits_of_f32.ensures
