use Rattle.std.proofs.Common.{◌≡◌, ℕ, ◌+◌, ◌-◌, ◌≤◌}
use Rattle.high_delay.specs.Between.{high_delay}
use Rattle.told_oversampled.specs.Reckoned.{which_of, reckoned}
use Rattle.told_oversampled.proofs.readings.summed.Given as goal

abbrev pub invariant-loop-k : goal.invariant-loop-k
invariant-loop-k l =
    (l.k ≤ l.factor)
    × (l.s ≡ reckoned (which_of l.accepted) (λ (kk : ℕ). high_delay l.from l.delay (kk + 1) l.factor) l.len l.taps
    l.inner l.k)

abbrev pub decreases-loop-k : goal.decreases-loop-k
decreases-loop-k l = l.factor - l.k
