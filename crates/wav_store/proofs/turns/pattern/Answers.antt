-- `wav_store::turns::pattern` meets its contract: a sample that fits is not a NaN. Assumes nothing.
use denote.Floats.{passes}
use lib.Ieee.{binary64, fits}
use Rattle.wav_store.proofs.FloatDigits.{no_nan}
use Rattle.wav_store.proofs.turns.pattern.Goals as goal

pub float_to_bits-result : goal.float_to_bits-result
float_to_bits-result c = no_nan c.args.x (passes (fits binary64 c.args.x) c.well_formed.0.1) c.requires
