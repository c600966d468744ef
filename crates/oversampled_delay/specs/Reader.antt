-- W11c to W11e, W11h. A call of 000's OversampledVariableDelay: which refusal is due, and what the call leaves.
-- Definitions only.
use Rattle.std.specs.Prelude.{ℕ, zero, suc, ◌+◌, ◌*◌, Bool, cond, ◌&&◌, List, length, ◌==◌, Float}
use Rattle.answer.specs.declared.Answer.{Answer}
use Rattle.answer.specs.declared.Answer.TheVariants.{Sample, Refused}
use Rattle.ring.specs.Length.{length_for}
use Rattle.ring.specs.Length as ring
use Rattle.filter_settings.specs.Ranges.{taps_ok}
use Rattle.filter_settings.specs.Lengths.{history_length}
use Rattle.fir_filter.specs.Filters.{pushed, output_of}
use Rattle.kernels.specs.declared.Kernel.{Kernel}
use Rattle.kernels.specs.Kernels.{read_by, own_ok, table_for}
use Rattle.oversampled_refusals.specs.declared.Outer.{Outer}
use Rattle.oversampled_refusals.specs.Outer.{verdict}
use Rattle.oversampled_delay.specs.Phases.{High, turn_of, high_of, phases_of}
use Rattle.oversampled_delay.specs.declared.OversampledVariableDelay.{OversampledVariableDelay}
use Rattle.oversampled_delay.specs.declared.Lengths.{Lengths}
use Rattle.oversampled_delay.specs.declared.Processed.{Processed}

-- N1. The settings other than the factor are in range: W11b's taps, and 01's sum for the inner ring.
abbrev pub settings_ok : OversampledVariableDelay → Bool
settings_ok d = taps_ok d.taps && ring.settings_ok (d.factor * d.maximum) d.margin

-- N2. The histories and the inner ring have the lengths that the settings need.
abbrev pub held_ok : OversampledVariableDelay → ℕ → ℕ → ℕ → Bool
held_ok d up down inner =
    (up == history_length d.taps d.factor) && down == d.taps
    && inner == length_for (d.factor * d.maximum) d.margin

abbrev pub lent_ok : Kernel → OversampledVariableDelay → Lengths → Bool
lent_ok k d n =
    (n.coefficients == d.taps) && held_ok d n.up n.down n.ring && n.table == table_for k

abbrev pub outer_of : OversampledVariableDelay → Outer
outer_of d = record { accepted = d.accepted; inner = d.inner; previous = d.previous }

-- W11h. The number of the refusal, 0 for none.
abbrev pub due_of : Kernel → OversampledVariableDelay → Lengths → Float → Float → ℕ
due_of k d n x y = verdict (settings_ok d && own_ok k) (lent_ok k d n) d.factor (outer_of d) x y

-- What is lent to a call.
pub record Lent : Type 0 where
  pub table : List Float
  pub coefficients : List Float
  pub up : List Float
  pub down : List Float
  pub ring : List Float

abbrev pub lent_of : List Float → List Float → List Float → List Float → List Float → Lent
lent_of table coefficients up down ring =
    record { table = table; coefficients = coefficients; up = up; down = down; ring = ring }

abbrev pub lengths_of : Lent → Lengths
lengths_of l = record {
  table = length l.table;
  coefficients = length l.coefficients;
  up = length l.up;
  down = length l.down;
  ring = length l.ring;
}

-- The delay before the first phase: the previous call's, and the call's own if none was accepted yet.
abbrev pub from_of : OversampledVariableDelay → Float → Float
from_of d y = cond (d.accepted == 0) y d.previous

-- The phases of an accepted call, after its input was pushed into the upsampler's history.
abbrev pub high_after : Kernel → OversampledVariableDelay → Lent → Float → Float → High
high_after k d l x y =
    phases_of (turn_of (read_by k l.table) d l.coefficients (pushed l.up d.accepted x) (from_of d y) y)
    (high_of d.inner l.down l.ring) d.factor

-- What a call leaves.
pub record Left : Type 0 where
  pub state : OversampledVariableDelay
  pub answer : Answer
  pub up : List Float
  pub down : List Float
  pub ring : List Float

abbrev pub state_after : OversampledVariableDelay → ℕ → Float → OversampledVariableDelay
state_after d inner y = record {
  maximum = d.maximum;
  margin = d.margin;
  factor = d.factor;
  taps = d.taps;
  accepted = d.accepted + 1;
  inner = inner;
  previous = y;
}

-- W11c. A refused call leaves everything as it was: the filters, the inner ring and the previous delay too. An accepted
-- one answers with the decimating filter's output after its phases.
abbrev pub left_by : ℕ → Kernel → OversampledVariableDelay → Lent → Float → Float → Left
left_by zero k d l x y =
    let h = high_after k d l x y in
    record {
      state = state_after d h.inner y;
      answer = Sample (output_of l.coefficients h.down (d.factor * (d.accepted + 1)) 1 0);
      up = pushed l.up d.accepted x;
      down = h.down;
      ring = h.ring;
    }
left_by (suc n) k d l x y =
    record { state = d; answer = Refused (suc n); up = l.up; down = l.down; ring = l.ring }

unfoldable pub called : Kernel → OversampledVariableDelay → Lent → Float → Float → Left
called k d l x y = left_by (due_of k d (lengths_of l) x y) k d l x y

abbrev pub processed_of : Left → Processed
processed_of r = record { state = r.state; answer = r.answer }
