-- `wav_store::floats::nearest_plain` meets its contract, by the steps of `FloatDigits`. Assumes nothing.
use denote.Floats.{passes}
use lib.Dec.{T}
use lib.Ieee.{binary64, fits, of_bits}
use Rattle.wav_store.proofs.FloatDigits as digits
use Rattle.wav_store.proofs.floats.nearest_plain.Goals as goal
use Rattle.wav_store.proofs.floats.nearest_plain.Goals.{Start}

held : (c : Start) → T (fits binary64 c.args.x)
held c = passes (fits binary64 c.args.x) c.well_formed.0.1

pub float_to_bits-b : goal.float_to_bits-b
float_to_bits-b c = digits.no_nan c.args.x (held c) c.requires.fit

pub float_from_bits-c : goal.float_from_bits-c
float_from_bits-c c = digits.power-no-nan c.args.x (held c) c.requires.fit

pub float_to_float-result : goal.float_to_float-result
unfolding of_bits
float_to_float-result c =
    digits.plain-casts c.args.x (held (goal.at.float_to_float-result c).Start) c.requires.fit c.requires.large

pub float_to_bits-result : goal.float_to_bits-result
unfolding of_bits
float_to_bits-result c =
    digits.plain-no-nan c.args.x (held (goal.at.float_to_bits-result c).Start) c.requires.fit c.requires.large

pub returns : goal.returns
unfolding of_bits
returns c =
    digits.plain_word c.args.x (held (goal.at.returns c).Start) c.requires.fit c.requires.large
