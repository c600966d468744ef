-- `fugnadri::cubic_exports::fugnadri_cubic_process_bits` meets its contract: it leaves what the call without `_bits`
-- leaves, with the sample as a bit pattern. Assumes nothing.
use lib.Ieee.{binary64}
use Rattle.answer_parts.proofs.LeftByExports.{in-bits}
use Rattle.fugnadri.proofs.cubic_exports.fugnadri_cubic_process_bits.Goals as goal

pub returns : goal.returns
returns c = in-bits binary64 c.fugnadri_cubic_process-no.ensures c.bits_of.ensures
