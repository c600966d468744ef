-- `wav_samples::floats::of_number` meets its contract: the pattern is not a NaN's, and every f32 is an f64 too. Assumes
-- nothing.
use mathlib.Core.Bool.{not}
use lib.Ieee.{binary32, binary64, fits, is_nan, of_bits}
use lib.Ieee.Bits.{nan_bits_is, of_bits-fits}
use lib.Ieee.Fits.{and_i, fits_widens}
use Rattle.bit_patterns.proofs.Quiet.{reads-number}
use Rattle.wav_samples.proofs.floats.of_number.Goals as goal

pub float_from_bits-result : goal.float_from_bits-result
float_from_bits-result c = reads-number binary32 c.args.n c.requires

pub float_to_float-result : goal.float_to_float-result
float_to_float-result c =
    let n = c.args.n in
    let x = of_bits binary32 n in
    and_i (fits binary64 x) (not (is_nan x)) (fits_widens x (of_bits-fits binary32 n))
    (rw (nan_bits_is binary32 n) at (float_from_bits-result c.before))
