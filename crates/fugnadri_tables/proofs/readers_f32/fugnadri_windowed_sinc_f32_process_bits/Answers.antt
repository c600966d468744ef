-- `fugnadri_tables::readers_f32::fugnadri_windowed_sinc_f32_process_bits` meets its contract: it leaves what the call
-- without `_bits` leaves, with the sample as a bit pattern. Assumes nothing.
use lib.Ieee.{binary32}
use Rattle.answer_parts.proofs.LeftByExports.{in-bits}
use Rattle.fugnadri_tables.proofs.readers_f32.fugnadri_windowed_sinc_f32_process_bits.Goals as goal

pub returns : goal.returns
returns c =
    in-bits binary32 c.fugnadri_windowed_sinc_f32_process-no.ensures c.bits_of_f32.ensures
