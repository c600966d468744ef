-- `oscillators::maximum_delay_excursion_samples` meets its contract: its tests are those of the definition. Assumes
-- nothing.
use mathlib.Core.Path.{◌≡◌, refl}
use lib.Count.{count_trailing_zeros}
use lib.Ieee.{binary64, size, span, climb, odd, units, round, div, of_fields, of_bits}
use Rattle.oscillator_ranges.specs.Constants.{max_shape_primitive}
use Rattle.oscillator_arithmetic.specs.Arithmetic.{excursion}
use Rattle.oscillators.proofs.maximum_delay_excursion_samples.Goals as goal

-- The constant of the code is 7.0 / 6.0.
ratio : of_bits binary64 0x3ff2_aaaa_aaaa_aaab ≡ max_shape_primitive
unfolding count_trailing_zeros size span climb odd units round div of_fields of_bits
ratio = refl

pub returns : goal.returns
unfolding excursion
returns c =
    rw (
      c.answered.ensures,
      c.both.ensures,
      c.depth_ok.ensures,
      c.speed_delta-delta.ensures,
      c.both-rates.ensures,
      c.sample_rate_ok.ensures,
      c.minimum_rate_ok.ensures,
      ratio,
    )

pub minimum_rate_ok-requires : goal.minimum_rate_ok-requires
minimum_rate_ok-requires c = tt

pub sample_rate_ok-requires : goal.sample_rate_ok-requires
sample_rate_ok-requires c = tt

pub both-rates-requires : goal.both-rates-requires
both-rates-requires c = tt

pub speed_delta-delta-requires : goal.speed_delta-delta-requires
speed_delta-delta-requires c = tt

pub depth_ok-requires : goal.depth_ok-requires
depth_ok-requires c = tt

pub both-requires : goal.both-requires
both-requires c = tt

pub answered-requires : goal.answered-requires
answered-requires c = tt
