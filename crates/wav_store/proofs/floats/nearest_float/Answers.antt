-- `wav_store::floats::nearest_float` meets its contract, by the steps of `FloatDigits`. Assumes nothing.
use native.Mathlib.Omega.{arith}
use denote.Floats.{passes}
use lib.Dec.{T}
use lib.Ieee.{binary64, fits, of_bits}
use lib.Ieee.Bits.{to_bits-lt}
use Rattle.wav_store.proofs.FloatDigits as digits
use Rattle.wav_store.proofs.floats.nearest_float.Goals as goal
use Rattle.wav_store.proofs.floats.nearest_float.Goals.{Start}

held : (c : Start) → T (fits binary64 c.args.x)
held c = passes (fits binary64 c.args.x) c.well_formed.0.1

pub float_to_bits-b : goal.float_to_bits-b
float_to_bits-b c = digits.no_nan c.args.x (held c) c.requires

pub float_from_bits-power : goal.float_from_bits-power
float_from_bits-power c = digits.power-no-nan c.args.x (held c) c.requires

pub overflow_mul-sign : goal.overflow_mul-sign
overflow_mul-sign c = omega (arith, to_bits-lt binary64 c.args.x (held (goal.at.overflow_mul-sign c).Start))

pub float_to_bits-n : goal.float_to_bits-n
unfolding of_bits
float_to_bits-n c = rw c.larger-c.ensures (digits.y-no-nan c.args.x (held (goal.at.float_to_bits-n c).Start) c.requires)

pub overflow_add-n : goal.overflow_add-n
unfolding of_bits
overflow_add-n c =
    record {
      fits = rw c.larger-c.ensures (digits.fits_word c.args.x (held (goal.at.overflow_add-n c).Start) c.requires);
    }

pub float_from_bits-result : goal.float_from_bits-result
unfolding of_bits
float_from_bits-result c =
    rw c.larger-c.ensures (digits.pattern-no-nan c.args.x (held (goal.at.float_from_bits-result c).Start) c.requires)

pub float_to_float-result : goal.float_to_float-result
unfolding of_bits
float_to_float-result c =
    rw c.larger-c.ensures (digits.casts c.args.x (held (goal.at.float_to_float-result c).Start) c.requires)

pub float_to_bits-result : goal.float_to_bits-result
unfolding of_bits
float_to_bits-result c =
    rw c.larger-c.ensures (digits.no-nan-there c.args.x (held (goal.at.float_to_bits-result c).Start) c.requires)

pub returns : goal.returns
unfolding of_bits
returns c =
    rw c.larger-c.ensures (digits.word c.args.x (held (goal.at.returns c).Start) c.requires)
