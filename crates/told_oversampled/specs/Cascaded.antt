-- W11f. A call of the cascaded oversampled reader that reports absent taps: the reader's own answer, with the sums over
-- its four inner readings, and none if it is refused. Definitions only.
use Rattle.std.specs.Prelude.{ℕ, ◌+◌, ◌*◌, List, Float}
use Rattle.std.specs.Float.{binary64}
use Rattle.std.specs.Float.Ieee.{mul}
use Rattle.answer.specs.declared.Answer.{Answer}
use Rattle.constants.specs.Numbers.{two-f}
use Rattle.absent_taps.specs.declared.Absent.{Absent}
use Rattle.absent_taps.specs.Absent.{plus}
use Rattle.told_call.specs.Told.{unless_refused}
use Rattle.high_delay.specs.Between.{high_delay}
use Rattle.kernels.specs.declared.Kernel.{Kernel}
use Rattle.kernels.specs.Kernels.{taps_of}
use Rattle.fir_filter.specs.Filters.{pushed, output_of}
use Rattle.cascaded_delay.specs.Halves.{Turn, Inner, High, inner_of, high_of, quarter_of, half_of}
use Rattle.cascaded_delay.specs.Reader.{Lent, lengths_of, due_of, Left, turn_after, high_before, called}
use Rattle.cascaded_delay.specs.declared.CascadedOversampledVariableDelay4x.{CascadedOversampledVariableDelay4x}
use Rattle.told_oversampled.specs.Inside.{inside}

-- What the second upsampler gives at the phase q of the half p, times 2; `up2` is its history at that half.
abbrev pub raised_of : Turn → ℕ → ℕ → List Float → Float
raised_of t p q up2 = mul binary64 (output_of t.halfband up2 (2 * t.state.accepted + p + 1) 2 q) two-f

-- The second upsampler's history at the half p, into which the half's sample was pushed.
abbrev pub up2_of : Turn → ℕ → High → List Float
up2_of t p h =
    pushed h.up2 (2 * t.state.accepted + p)
    (mul binary64 (output_of t.halfband t.up1 (t.state.accepted + 1) 2 p) two-f)

-- The inner reading of one sample at four times the rate.
abbrev pub quarter_absent : ℕ → Turn → ℕ → ℕ → List Float → Inner → Absent
quarter_absent n t p q up2 h =
    inside n (inner_of t.state h.inner) h.ring (raised_of t p q up2)
    (high_delay t.from t.delay (2 * p + q + 1) 4)

-- The two of a half; the second finds what the first left.
abbrev pub half_absent : ℕ → Turn → ℕ → High → Absent
half_absent n t p h =
    let up2 = up2_of t p h in
    let before = high_of h.inner h.down2 h.ring in
    plus (quarter_absent n t p 0 up2 before)
    (quarter_absent n t p 1 up2
    (quarter_of t.read t.state t.halfband t.from t.delay p 0 up2 before))

-- Those of an accepted call.
abbrev pub absent_in : Kernel → CascadedOversampledVariableDelay4x → Lent → Float → Float → Absent
absent_in k d l x y =
    let t = turn_after k d l x y in
    let h = high_before d l in
    plus (half_absent (taps_of k) t 0 h) (half_absent (taps_of k) t 1 (half_of t 0 h))

-- What the reader's own call leaves, and the sums.
pub record ToldLeft : Type 0 where
  pub left : Left
  pub absent : Absent

abbrev pub leaves_told : Left → Absent → ToldLeft
leaves_told left absent = record { left = left; absent = absent }

abbrev pub leaves_twice : CascadedOversampledVariableDelay4x → Answer → List Float → List Float → List Float
    → List Float → List Float → Left
leaves_twice state answer up1 up2 down2 down1 ring = record {
  state = state;
  answer = answer;
  up1 = up1;
  up2 = up2;
  down2 = down2;
  down1 = down1;
  ring = ring;
}

abbrev pub told_of : Kernel → CascadedOversampledVariableDelay4x → Lent → Float → Float → ToldLeft
told_of k d l x y =
    leaves_told (called k d l x y) (unless_refused (due_of k d (lengths_of l) x y) (absent_in k d l x y))
