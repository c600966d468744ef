-- W11d, W11e. The two halves of an accepted call of 000's CascadedOversampledVariableDelay4x, in 000's order, over what
-- the kernel reads. Definitions only.
use Rattle.std.specs.Prelude.{ℕ, ◌+◌, ◌*◌, ◌^◌, ◌≤◌, ◌<◌, List, Float}
use Rattle.std.specs.Float.{binary64}
use Rattle.std.specs.Float.Ieee.{mul}
use Rattle.constants.specs.Numbers.{two-f}
use Rattle.variable_delay.specs.Reader.{Reading, processed}
use Rattle.variable_delay.specs.declared.VariableDelay.{VariableDelay}
use Rattle.high_delay.specs.Between.{high_delay}
use Rattle.fir_filter.specs.Filters.{pushed, output_of}
use Rattle.inner_reader.specs.Inner.{stepped_of, ring_stepped}
use Rattle.cascaded_delay.specs.declared.CascadedOversampledVariableDelay4x.{CascadedOversampledVariableDelay4x}

abbrev pub inner_of : CascadedOversampledVariableDelay4x → ℕ → VariableDelay
inner_of d inner = record { maximum = 4 * d.maximum; margin = d.margin; accepted = inner }

-- What one sample at four times the rate changes: the inner accepted number, the first decimating filter's history and
-- the inner ring.
pub record Inner : Type 0 where
  pub inner : ℕ
  pub down2 : List Float
  pub ring : List Float

abbrev pub high_of : ℕ → List Float → List Float → Inner
high_of inner down2 ring = record { inner = inner; down2 = down2; ring = ring }

-- The sample at the phase q of the half p, so at 000's phase4 2p + q. It comes from the second upsampler's history,
-- into which the half's sample was pushed; the inner reader's own call gives a sample, 0.0 if it is refused.
unfoldable pub quarter_of : Reading → CascadedOversampledVariableDelay4x → List Float → Float → Float → ℕ → ℕ
    → List Float → Inner → Inner
quarter_of read d halfband from delay p q up2 h =
    let x = mul binary64 (output_of halfband up2 (2 * d.accepted + p + 1) 2 q) two-f in
    let y = high_delay from delay (2 * p + q + 1) 4 in
    let s = stepped_of (processed read (inner_of d h.inner) h.ring x y) in
    high_of s.accepted (pushed h.down2 (4 * d.accepted + (2 * p + q)) s.sample)
    (ring_stepped (inner_of d h.inner) h.ring x y)

-- What both halves of a call find alike: the kernel's reading, the state before the call, the coefficients of the
-- halfband filter, the first upsampler's history with the input pushed, and the two delays.
pub record Turn : Type 0 where
  pub read : Reading
  pub state : CascadedOversampledVariableDelay4x
  pub halfband : List Float
  pub up1 : List Float
  pub from : Float
  pub delay : Float

abbrev pub turn_of : Reading → CascadedOversampledVariableDelay4x → List Float → List Float → Float → Float → Turn
turn_of read d halfband up1 from delay =
    record { read = read; state = d; halfband = halfband; up1 = up1; from = from; delay = delay }

-- What they change.
pub record High : Type 0 where
  pub inner : ℕ
  pub up2 : List Float
  pub down2 : List Float
  pub down1 : List Float
  pub ring : List Float

-- The half p: one sample into the second upsampler, two through the inner reader, and one into the last filter.
unfoldable pub half_of : Turn → ℕ → High → High
half_of t p h =
    let d = t.state in
    let raised = mul binary64 (output_of t.halfband t.up1 (d.accepted + 1) 2 p) two-f in
    let up2 = pushed h.up2 (2 * d.accepted + p) raised in
    let a = quarter_of t.read d t.halfband t.from t.delay p 0 up2 (high_of h.inner h.down2 h.ring) in
    let b = quarter_of t.read d t.halfband t.from t.delay p 1 up2 a in
    record {
      inner = b.inner;
      up2 = up2;
      down2 = b.down2;
      down1 =
          pushed h.down1 (2 * d.accepted + p)
          (output_of t.halfband b.down2 (4 * d.accepted + 2 * p + 2) 1 0);
      ring = b.ring;
    }

-- Both halves, in turn.
abbrev pub both_of : Turn → High → High
both_of t h = half_of t 1 (half_of t 0 h)

-- What an accepted call knows, so that no number of the halves is too large.
pub record Ready (d : CascadedOversampledVariableDelay4x) : Type 0 where
  pub room : d.accepted < 2 ^ 34
  pub small : 4 * d.maximum ≤ 2 ^ 24
