-- M4, M5. 001's functions on floats, operation by operation in its order, each rounded once. Definitions only.
use Rattle.std.specs.Prelude.{cond, List, [], ◌∷◌, Float, Result, Ok, Err}
use Rattle.refusal.specs.declared.Refusal.{Refusal}
use Rattle.std.specs.Float.{binary64}
use Rattle.std.specs.Float.Ieee.{neg, add, sub, mul, div, lt}
use Rattle.rounding.specs.Operations.{root}
use Rattle.min_max.specs.Choice.{larger, clamped}
use Rattle.elementary.specs.Answers.{cosine_of, exp2_of}
use Rattle.remainder.specs.Euclid.{rem_euclid}
use Rattle.oscillator_ranges.specs.Constants.{tau, sqrt2, zero, one, three, five, slowest, octave, max_shape_primitive}
use Rattle.oscillator_ranges.specs.Constants.{square_first, square_third, triangle_third, triangle_fifth}
use Rattle.oscillator_ranges.specs.Constants.{triangle_normalization}

-- C4. The value of an answer; a refusal has none, and 0.0 stands for it.
abbrev pub value_of : Result Float Refusal → Float
value_of (Ok v) = v
value_of (Err r) = zero

-- The port's own functions stand for 001's cos and 2.0_f64.powf. In the ranges of document 01 neither refuses (the laws
-- of proofs/NothingRefused).
unfoldable pub cos : Float → Float
cos x = value_of (cosine_of x)

unfoldable pub pow2 : Float → Float
pow2 x = value_of (exp2_of x)

-- In 001: `2.0_f64.powf(depth_cents / 1200.0) - 1.0`.
unfoldable pub speed_delta : Float → Float
speed_delta depth-cents = sub binary64 (pow2 (div binary64 depth-cents octave)) one

-- In 001: `(phase + TAU * rate_hz.max(0.0) / sample_rate).rem_euclid(TAU)`.
unfoldable pub advance_phase : Float → Float → Float → Float
advance_phase phase rate-hz sample-rate =
    rem_euclid (add binary64 phase (div binary64 (mul binary64 tau (larger rate-hz zero)) sample-rate)) tau

-- In 001: `1.125 * phase.cos() + (0.125 / 3.0) * (3.0 * phase).cos()`.
unfoldable pub rounded_square : Float → Float
rounded_square phase =
    add binary64 (mul binary64 square_first (cos phase)) (mul binary64 square_third (cos (mul binary64 three phase)))

-- In 001: `(phase.cos() - (3.0 * phase).cos() / 27.0 + (5.0 * phase).cos() / 125.0) / TRIANGLE_NORMALIZATION`.
unfoldable pub triangle : Float → Float
triangle phase =
    div binary64
    (add binary64 (sub binary64 (cos phase) (div binary64 (cos (mul binary64 three phase)) triangle_third))
    (div binary64 (cos (mul binary64 five phase)) triangle_fifth))
    triangle_normalization

-- In 001: `let shape = shape.clamp(-1.0, 1.0)`; then `sine + (-shape) * (rounded_square - sine)` below zero, and
-- otherwise `sine + shape * (triangle - sine)`.
unfoldable pub shape_primitive : Float → Float → Float
shape_primitive phase shape =
    let sine = cos phase in
    let s = clamped shape (neg one) one in
    cond (lt s zero) (add binary64 sine (mul binary64 (neg s) (sub binary64 (rounded_square phase) sine)))
    (add binary64 sine (mul binary64 s (sub binary64 (triangle phase) sine)))

-- In 001: `let rate_hz = rate_hz.max(0.001)`, then `let amplitude = speed_delta(depth_cents.max(0.0)) * sample_rate /
-- (TAU * rate_hz)`.
unfoldable pub amplitude_of : Float → Float → Float → Float
amplitude_of rate-hz depth-cents sample-rate =
    div binary64 (mul binary64 (speed_delta (larger depth-cents zero)) sample-rate)
    (mul binary64 tau (larger rate-hz slowest))

-- In 001: `amplitude * shape_primitive(phase, shape)`.
unfoldable pub oscillator_delay : Float → Float → Float → Float → Float → Float
oscillator_delay phase rate-hz depth-cents shape sample-rate =
    mul binary64 (amplitude_of rate-hz depth-cents sample-rate) (shape_primitive phase shape)

-- In 001: `speed_delta(max_depth_cents) * sample_rate * MAX_SHAPE_PRIMITIVE / (TAU * min_rate_hz)`.
unfoldable pub excursion : Float → Float → Float → Float
excursion max-depth-cents min-rate-hz sample-rate =
    div binary64 (mul binary64 (mul binary64 (speed_delta max-depth-cents) sample-rate) max_shape_primitive)
    (mul binary64 tau min-rate-hz)

-- M4. In 001: `.map(speed_delta).map(|delta| delta * delta).sum::<f64>()`, here from any sum on, in the list's order.
unfoldable pub squares_from : Float → List Float → Float
squares_from sum [] = sum
squares_from sum (depth-cents ∷ rest) =
    let delta = speed_delta depth-cents in squares_from (add binary64 sum (mul binary64 delta delta)) rest

-- In 001: `.sqrt() * SQRT_2`. The sum starts at -0.0, which is what Rust's sum of an empty list gives.
unfoldable pub rate_delta : List Float → Float
rate_delta depths-cents = mul binary64 (root binary64 (squares_from (neg zero) depths-cents)) sqrt2
