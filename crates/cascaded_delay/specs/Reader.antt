-- W11c to W11e, W11h. A call of 000's CascadedOversampledVariableDelay4x: which refusal is due, and what the call
-- leaves. Definitions only.
use Rattle.std.specs.Prelude.{ℕ, zero, suc, ◌+◌, ◌*◌, Bool, ◌&&◌, cond, List, eqb, length, Float}
use Rattle.answer.specs.declared.Answer.{Answer}
use Rattle.answer.specs.declared.Answer.TheVariants.{Sample, Refused}
use Rattle.ring.specs.Length.{length_for, settings_ok}
use Rattle.fir_filter.specs.Filters.{pushed, output_of}
use Rattle.kernels.specs.declared.Kernel.{Kernel}
use Rattle.kernels.specs.Kernels.{read_by, own_ok, table_for}
use Rattle.oversampled_refusals.specs.declared.Outer.{Outer}
use Rattle.oversampled_refusals.specs.Outer.{verdict}
use Rattle.cascaded_delay.specs.Halves.{Turn, High, turn_of, both_of}
use Rattle.cascaded_delay.specs.declared.CascadedOversampledVariableDelay4x.{CascadedOversampledVariableDelay4x}
use Rattle.cascaded_delay.specs.declared.Lengths.{Lengths}
use Rattle.cascaded_delay.specs.declared.Processed.{Processed}

-- N1. 01's sum for the inner ring is in range.
abbrev pub ring_ok : CascadedOversampledVariableDelay4x → Bool
ring_ok d = settings_ok (4 * d.maximum) d.margin

-- N2. The histories have 33, 33, 65 and 129 samples, and the inner ring the length that is needed.
abbrev pub held_ok : ℕ → ℕ → ℕ → ℕ → ℕ → ℕ → Bool
held_ok needed up1 up2 down2 down1 ring =
    eqb up1 33 && eqb up2 33 && (eqb down2 65 && eqb down1 129) && eqb ring needed

abbrev pub needed_by : CascadedOversampledVariableDelay4x → ℕ
needed_by d = length_for (4 * d.maximum) d.margin

-- The two filters have 65 and 129 coefficients.
abbrev pub lent_ok : Kernel → CascadedOversampledVariableDelay4x → Lengths → Bool
lent_ok k d n =
    eqb n.halfband 65 && eqb n.last 129
    && held_ok (needed_by d) n.up1 n.up2 n.down2 n.down1 n.ring
    && eqb n.table (table_for k)

abbrev pub outer_of : CascadedOversampledVariableDelay4x → Outer
outer_of d = record { accepted = d.accepted; inner = d.inner; previous = d.previous }

-- W11h. The number of the refusal, 0 for none.
abbrev pub due_of : Kernel → CascadedOversampledVariableDelay4x → Lengths → Float → Float → ℕ
due_of k d n x y = verdict (ring_ok d && own_ok k) (lent_ok k d n) 4 (outer_of d) x y

-- What is lent to a call.
pub record Lent : Type 0 where
  pub table : List Float
  pub halfband : List Float
  pub last : List Float
  pub up1 : List Float
  pub up2 : List Float
  pub down2 : List Float
  pub down1 : List Float
  pub ring : List Float

abbrev pub lent_of : List Float → List Float → List Float → List Float → List Float → List Float → List Float
    → List Float → Lent
lent_of table halfband last up1 up2 down2 down1 ring = record {
  table = table;
  halfband = halfband;
  last = last;
  up1 = up1;
  up2 = up2;
  down2 = down2;
  down1 = down1;
  ring = ring;
}

abbrev pub lengths_of : Lent → Lengths
lengths_of l = record {
  table = length l.table;
  halfband = length l.halfband;
  last = length l.last;
  up1 = length l.up1;
  up2 = length l.up2;
  down2 = length l.down2;
  down1 = length l.down1;
  ring = length l.ring;
}

-- The delay before the first phase: the previous call's, and the call's own if none was accepted yet.
abbrev pub from_of : CascadedOversampledVariableDelay4x → Float → Float
from_of d y = cond (eqb d.accepted 0) y d.previous

-- Both halves of an accepted call, after its input was pushed into the first upsampler's history.
abbrev pub turn_after : Kernel → CascadedOversampledVariableDelay4x → Lent → Float → Float → Turn
turn_after k d l x y =
    turn_of (read_by k l.table) d l.halfband (pushed l.up1 d.accepted x) (from_of d y) y

abbrev pub high_before : CascadedOversampledVariableDelay4x → Lent → High
high_before d l =
    record { inner = d.inner; up2 = l.up2; down2 = l.down2; down1 = l.down1; ring = l.ring }

abbrev pub high_after : Kernel → CascadedOversampledVariableDelay4x → Lent → Float → Float → High
high_after k d l x y = both_of (turn_after k d l x y) (high_before d l)

-- What a call leaves.
pub record Left : Type 0 where
  pub state : CascadedOversampledVariableDelay4x
  pub answer : Answer
  pub up1 : List Float
  pub up2 : List Float
  pub down2 : List Float
  pub down1 : List Float
  pub ring : List Float

abbrev pub state_after : CascadedOversampledVariableDelay4x → ℕ → Float → CascadedOversampledVariableDelay4x
state_after d inner y =
    record { maximum = d.maximum; margin = d.margin; accepted = d.accepted + 1; inner = inner; previous = y }

-- W11c. A refused call leaves everything as it was. An accepted one answers with the last filter's output, into which
-- each half pushed one sample.
abbrev pub left_by : ℕ → Kernel → CascadedOversampledVariableDelay4x → Lent → Float → Float → Left
left_by zero k d l x y =
    let h = high_after k d l x y in
    record {
      state = state_after d h.inner y;
      answer = Sample (output_of l.last h.down1 (2 * (d.accepted + 1)) 1 0);
      up1 = pushed l.up1 d.accepted x;
      up2 = h.up2;
      down2 = h.down2;
      down1 = h.down1;
      ring = h.ring;
    }
left_by (suc n) k d l x y = record {
  state = d;
  answer = Refused (suc n);
  up1 = l.up1;
  up2 = l.up2;
  down2 = l.down2;
  down1 = l.down1;
  ring = l.ring;
}

unfoldable pub called : Kernel → CascadedOversampledVariableDelay4x → Lent → Float → Float → Left
called k d l x y = left_by (due_of k d (lengths_of l) x y) k d l x y

abbrev pub processed_of : Left → Processed
processed_of r = record { state = r.state; answer = r.answer }
