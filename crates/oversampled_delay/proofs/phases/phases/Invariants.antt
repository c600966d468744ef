use Rattle.std.proofs.Common.{◌≡◌, length}
use Rattle.kernels.specs.Kernels.{read_by}
use Rattle.oversampled_delay.specs.Phases.{turn_of, high_of, phases_of}
use Rattle.oversampled_delay.proofs.phases.phases.Given as goal

abbrev pub invariant-loop-k : goal.invariant-loop-k
invariant-loop-k l =
    (length l.down ≡ length l.initial.down) × (length l.ring ≡ length l.initial.ring)
    × (high_of l.inner l.down l.ring
    ≡ phases_of (turn_of (read_by l.kernel l.table) l.state l.coefficients l.up l.from l.delay)
    (high_of l.state.inner l.initial.down l.initial.ring) l.k)
