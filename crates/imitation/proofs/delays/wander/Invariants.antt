-- `imitation::delays::wander`: the delays of the first k frames are written, and the engine stepped as often. Assumes
-- nothing.
use mathlib.Core.Path.{◌≡◌}
use Prim.Native.Nat.{ℕ}
use Rattle.imitation.specs.Delays.{turned_by, left_of, right_of, offset_at}
use Rattle.imitation.proofs.Fronts.{Front}
use Rattle.imitation.proofs.delays.wander.Given as goal

abbrev pub invariant-loop-k : goal.invariant-loop-k
invariant-loop-k l = record {
  turned : l.e ≡ turned_by l.params l.initial.e l.k;
  left : Front (λ (j : ℕ). left_of l.middle (offset_at l.params l.initial.e j)) l.initial.left l.left l.k;
  right : Front (λ (j : ℕ). right_of l.middle (offset_at l.params l.initial.e j)) l.initial.right l.right l.k;
}
