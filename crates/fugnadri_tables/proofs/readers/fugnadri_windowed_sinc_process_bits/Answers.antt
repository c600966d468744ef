-- `fugnadri_tables::readers::fugnadri_windowed_sinc_process_bits` meets its contract: it leaves what the call without
-- `_bits` leaves, with the sample as a bit pattern. Assumes nothing.
use lib.Ieee.{binary64}
use Rattle.answer_parts.proofs.LeftByExports.{in-bits}
use Rattle.fugnadri_tables.proofs.readers.fugnadri_windowed_sinc_process_bits.Goals as goal

pub returns : goal.returns
returns c = in-bits binary64 c.fugnadri_windowed_sinc_process-no.ensures c.bits_of.ensures
