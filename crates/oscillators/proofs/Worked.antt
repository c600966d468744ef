-- M4, G7. Worked numbers, by computing: an empty list of depths gives -0.0, and each range ends where 01 says. Assumes
-- nothing.
use Rattle.std.specs.Prelude.{Ok}
use mathlib.Core.Path.{◌≡◌, refl}
use mathlib.Core.List.{[]}
use lib.Count.{count_trailing_zeros}
use lib.Ieee.{size, span, climb, odd, units, round, neg, mul, of_fields, of_bits}
use Rattle.rounding.specs.Operations.{root}
use Rattle.oscillator_ranges.specs.Constants.{zero}
use Rattle.oscillator_arithmetic.specs.Arithmetic.{squares_from, rate_delta}
use Rattle.oscillators.specs.Answers.{answered_by, depths_ok, rate_delta_of}

pub M4 : rate_delta_of [] ≡ Ok (neg zero)
unfolding answered_by depths_ok rate_delta squares_from root count_trailing_zeros size span climb odd units round neg
    mul of_fields
    of_bits
M4 = refl
