-- In 01's ranges no cosine and no power of two that 001 computes is refused, so that `cos` and `pow2` are the port's
-- own functions with their bounds. Five times a phase of at most 51 is at most 255, and a depth of at most 1200 divided
-- by 1200 is at most 1. Assumes nothing.
use mathlib.Core.Path.{◌≡◌, refl, ap}
use mathlib.Core.Bool.{true}
use Prim.Native.Nat.{ℕ, ◌*◌, zero-le}
use lib.Count.{count_trailing_zeros}
use lib.Dec.{le→leb, lit<, lit≤}
use lib.Ieee.{Float, nan, inf, fin, binary64, up, down, odd, neg, sub, mul, div, of_fields, of_bits}
use lib.Ieee.Bits.{is_true}
use Rattle.magnitude.specs.Bounds.{AtMost}
use Rattle.magnitude.proofs.OrderAndBounds.{at-most-mono, within-at-most}
use Rattle.magnitude.proofs.Operations.{mul-at-most, div-at-most}
use Rattle.min_max.specs.Choice.{larger}
use Rattle.min_max.proofs.Choices.{chosen-keeps}
use Rattle.polynomials.specs.Range.{at_most}
use Rattle.elementary.specs.Answers.{cosine_at, power_at, cosine_of, exp2_of}
use Rattle.oscillator_ranges.specs.Constants.{zero, one, three, five, octave}
use Rattle.oscillator_ranges.specs.Ranges.{rate_ok, phase_ok, depth_ok}
use Rattle.oscillator_arithmetic.specs.Arithmetic.{cos, pow2, speed_delta}

test : (b : ℕ) (x : Float) → AtMost b x → at_most b x ≡ true
test b nan h = absurd h
test b (inf s) h = absurd h
test b (fin s m e) h = is_true _ (le→leb (m * up e) (b * down e) h)

cosine-answers : (x : Float) → AtMost 256 x → cos x ≡ cosine_at x
unfolding cos cosine_of
cosine-answers x h = rw (test 256 x h)

pub power-answers : (x : Float) → AtMost 1 x → pow2 x ≡ power_at x
unfolding pow2 exp2_of
power-answers x h = rw (test 1 x h)

-- ---- the phase
pub record Cosines (phase : Float) : Type 0 where
  pub first : cos phase ≡ cosine_at phase
  pub third : cos (mul binary64 three phase) ≡ cosine_at (mul binary64 three phase)
  pub fifth : cos (mul binary64 five phase) ≡ cosine_at (mul binary64 five phase)

pub phase-at-most : (phase : Float) → phase_ok phase ≡ true → AtMost 51 phase
unfolding count_trailing_zeros odd neg of_fields of_bits
phase-at-most phase h = within-at-most 51 _ phase _ (lit≤ tt) (lit≤ tt) h

pub cosines-answer : (phase : Float) → AtMost 51 phase → Cosines phase
unfolding count_trailing_zeros odd of_fields of_bits
cosines-answer phase p = record {
  first = cosine-answers phase (at-most-mono phase (lit≤ tt) p);
  third =
      cosine-answers (mul binary64 three phase)
      (at-most-mono (mul binary64 three phase) (lit≤ tt) (mul-at-most binary64 3 51 three phase (lit≤ tt) (lit≤ tt) p));
  fifth =
      cosine-answers (mul binary64 five phase)
      (at-most-mono (mul binary64 five phase) (lit≤ tt) (mul-at-most binary64 5 51 five phase (lit≤ tt) (lit≤ tt) p));
}

-- ---- the rate and the depth
pub rate-at-most : (rate : Float) → rate_ok rate ≡ true → AtMost 1000 rate
unfolding count_trailing_zeros odd neg of_fields of_bits
rate-at-most rate h = within-at-most 1000 _ rate _ (lit≤ tt) (lit≤ tt) h

pub depth-at-most : (depth : Float) → depth_ok depth ≡ true → AtMost 1200 depth
unfolding count_trailing_zeros odd neg of_fields of_bits
depth-at-most depth h = within-at-most 1200 _ depth _ (lit≤ tt) (lit≤ tt) h

pub larger-at-most : (b : ℕ) (x : Float) → AtMost b x → AtMost b (larger x zero)
unfolding larger count_trailing_zeros odd of_fields of_bits
larger-at-most b x h = chosen-keeps (AtMost b) _ x zero h zero-le

pub delta-answers : (depth : Float) → AtMost 1200 depth
    → speed_delta depth ≡ sub binary64 (power_at (div binary64 depth octave)) one
unfolding speed_delta count_trailing_zeros odd of_fields of_bits
delta-answers depth h =
    ap (λ (z : Float). sub binary64 z one)
    (power-answers (div binary64 depth octave)
    (div-at-most binary64 1200 1 depth octave _ 1200 1 (lit≤ tt) (lit< tt) (lit< tt) h (refl, refl) (lit≤ tt)))
