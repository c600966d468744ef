-- G8. A phase stays at least 0 and below TAU when it advances by any rate that is not huge: the sum is finite and not
-- below zero, and its remainder is exact. Assumes nothing.
use mathlib.Core.Path.{refl}
use lib.Count.{count_trailing_zeros}
use lib.Dec.{T}
use lib.Ieee.{Float, binary64, size, span, climb, odd, units, round, sum, add, mul, div, lt, eq, le, fits, is_nan}
use lib.Ieee.{of_fields, of_bits}
use lib.Ieee.Fits.{and_i, and_l, and_r, add-fits}
use Rattle.magnitude.proofs.Comparisons.{lt→le}
use Rattle.interval.proofs.Between.{Between, between, point, sum-between}
use Rattle.interval.proofs.Products.{product-between, quotient-between}
use Rattle.min_max.specs.Choice.{larger}
use Rattle.min_max.proofs.Choices.{chosen-keeps, larger-ge}
use Rattle.remainder.proofs.Exact.{euclid-range}
use Rattle.oscillator_ranges.specs.Constants.{tau, zero}
use Rattle.oscillator_ranges.specs.Ranges.{cycle_ok, sample_rate_ok}
use Rattle.oscillator_arithmetic.specs.Arithmetic.{advance_phase}

-- The bound 2 ^ 25.
abbrev pub huge : Float
huge = of_bits binary64 0x4180_0000_0000_0000

-- The sample rates 8000 and 768000.
abbrev low : Float
low = of_bits binary64 0x40bf_4000_0000_0000

abbrev high : Float
high = of_bits binary64 0x4127_7000_0000_0000

module _ (phase rate-hz sample-rate : Float) (kept : T (cycle_ok phase)) (slow : T (le rate-hz huge))
    (ok : T (sample_rate_ok sample-rate)) where
  forward : Between zero huge (larger rate-hz zero)
  unfolding larger is_nan count_trailing_zeros odd lt eq le of_fields of_bits
  forward = between tt tt (larger-ge rate-hz zero tt) (chosen-keeps (λ z. T (le z huge)) _ rate-hz zero slow tt)

  abbrev moved : Float
  moved = add binary64 phase (div binary64 (mul binary64 tau (larger rate-hz zero)) sample-rate)

  -- The largest phase before the remainder: 2 ^ 25 * TAU / 8000 plus one turn.
  abbrev reach : Float
  reach = add binary64 tau (div binary64 (mul binary64 tau huge) low)

  between-zero : Between zero reach moved
  unfolding count_trailing_zeros size span climb odd units round sum add mul div lt eq le of_fields of_bits
  between-zero =
      let cycle : Between zero tau phase =
      between tt tt (and_l (le zero phase) (lt phase tau) kept)
      (lt→le phase tau (and_r (le zero phase) (lt phase tau) kept)) in
      let samples : Between low high sample-rate =
      between tt tt (and_l (le low sample-rate) (le sample-rate high) ok)
      (and_r (le low sample-rate) (le sample-rate high) ok) in
      sum-between binary64 cycle (quotient-between binary64 tt
      (product-between binary64 tt (point tau tt) forward refl refl tt tt) samples tt refl refl tt tt)
      refl refl tt tt

  pub advance-cycle : T (cycle_ok (advance_phase phase rate-hz sample-rate))
  unfolding advance_phase fits count_trailing_zeros odd of_fields of_bits
  advance-cycle =
      let r =
      euclid-range moved tau (add-fits binary64 _ _) tt between-zero.above.second tt
      between-zero.above.order in
      and_i (le zero (advance_phase phase rate-hz sample-rate)) (lt (advance_phase phase rate-hz sample-rate) tau) r.0
      r.1
