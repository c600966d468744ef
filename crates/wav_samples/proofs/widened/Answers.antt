-- `wav_samples::widened` meets its contract: patterns above an infinity's are the NaN, and every other f32 is an f64
-- too. Assumes nothing.
use mathlib.Core.Path.{◌≡◌, refl, ◌∙◌}
use native.Mathlib.Omega.{arith}
use mathlib.Core.Bool.{not}
use lib.Ieee.{binary32, binary64, div, fits, is_nan, of_bits}
use lib.Ieee.Bits.{nan_bits_is, of_bits-fits}
use lib.Ieee.Fits.{and_i, fits_widens}
use Rattle.bit_patterns.proofs.Quiet.{reads-nan, reads-number}
use Rattle.wav_samples.proofs.widened.Goals as goal

-- 0.0 / 0.0 is the same NaN in both formats.
one-nan : div binary64 (of_bits binary64 0) (of_bits binary64 0)
    ≡ div binary32 (of_bits binary32 0) (of_bits binary32 0)
unfolding div of_bits
one-nan = refl

pub returns-then-n-gt2139095040 : goal.returns-then-n-gt2139095040
returns-then-n-gt2139095040 c = one-nan ∙ reads-nan binary32 c.args.n (omega (arith, c.if-n-gt2139095040.true))

pub float_from_bits-result : goal.float_from_bits-result
float_from_bits-result c = reads-number binary32 c.args.n (omega (arith, c.if-n-gt2139095040.false))

pub float_to_float-result : goal.float_to_float-result
float_to_float-result c =
    let n = c.args.n in
    let x = of_bits binary32 n in
    and_i (fits binary64 x) (not (is_nan x)) (fits_widens x (of_bits-fits binary32 n))
    (rw (nan_bits_is binary32 n) at (float_from_bits-result c.before))
