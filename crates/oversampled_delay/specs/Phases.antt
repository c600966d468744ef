-- W11d, W11e. The phases of an accepted call of 000's OversampledVariableDelay, in 000's order, over what the kernel
-- reads. Definitions only.
use Rattle.std.specs.Prelude.{ℕ, zero, suc, ◌+◌, ◌*◌, ◌^◌, ◌<◌, ◌≤◌, List, Float}
use Rattle.std.specs.Float.{binary64}
use Rattle.std.specs.Float.Ieee.{mul}
use Rattle.variable_delay.specs.Reader.{Reading, processed}
use Rattle.variable_delay.specs.declared.VariableDelay.{VariableDelay}
use Rattle.high_delay.specs.Between.{num, high_delay}
use Rattle.fir_filter.specs.Filters.{pushed, output_of}
use Rattle.inner_reader.specs.Inner.{stepped_of, ring_stepped}
use Rattle.oversampled_delay.specs.declared.OversampledVariableDelay.{OversampledVariableDelay}

-- The inner reader runs at `factor` times the rate, so that its maximum delay is the outer one's times the factor.
abbrev pub inner_of : OversampledVariableDelay → ℕ → VariableDelay
inner_of d inner = record { maximum = d.factor * d.maximum; margin = d.margin; accepted = inner }

-- What the phases of a call find alike: the kernel's reading, the state before the call, the coefficients, the
-- upsampler's history with the input pushed, and the two delays between which the phases lie.
pub record Turn : Type 0 where
  pub read : Reading
  pub state : OversampledVariableDelay
  pub coefficients : List Float
  pub up : List Float
  pub from : Float
  pub delay : Float

abbrev pub turn_of : Reading → OversampledVariableDelay → List Float → List Float → Float → Float → Turn
turn_of read d coefficients up from delay =
    record { read = read; state = d; coefficients = coefficients; up = up; from = from; delay = delay }

-- What they change: the inner accepted number, the decimating filter's history and the inner ring.
pub record High : Type 0 where
  pub inner : ℕ
  pub down : List Float
  pub ring : List Float

abbrev pub high_of : ℕ → List Float → List Float → High
high_of inner down ring = record { inner = inner; down = down; ring = ring }

-- What the inner reader takes at phase k: 000's `upsampler.output(phase) * FACTOR as f64`, and the delay.
abbrev pub raised_of : Turn → ℕ → Float
raised_of t k =
    let d = t.state in
    mul binary64 (output_of t.coefficients t.up (d.accepted + 1) d.factor k) (num d.factor)

abbrev pub delay_of : Turn → ℕ → Float
delay_of t k = high_delay t.from t.delay (k + 1) t.state.factor

-- Phase k. The inner reader's own call gives a sample, 0.0 if it is refused, which is pushed.
unfoldable pub phase_of : Turn → ℕ → High → High
phase_of t k h =
    let d = t.state in
    let s = stepped_of (processed t.read (inner_of d h.inner) h.ring (raised_of t k) (delay_of t k)) in
    high_of s.accepted (pushed h.down (d.factor * d.accepted + k) s.sample)
    (ring_stepped (inner_of d h.inner) h.ring (raised_of t k) (delay_of t k))

-- The first n phases, in turn.
unfoldable pub phases_of : Turn → High → ℕ → High
phases_of t h zero = h
phases_of t h (suc k) = phase_of t k (phases_of t h k)

-- What an accepted call knows, so that no number of the phases is too large.
pub record Ready (d : OversampledVariableDelay) : Type 0 where
  pub few : d.factor ≤ 4
  pub room : d.accepted < 2 ^ 34
  pub small : d.factor * d.maximum ≤ 2 ^ 24
