use mathlib.Core.Path.{◌≡◌}
use Prim.Native.Nat.{◌-◌}
use lib.ListN.{length}
use Rattle.quality_stretch.proofs.Fading.{Going}
use Rattle.quality_stretch.proofs.process_stretch.Given as goal

abbrev pub invariant-loop-k : goal.invariant-loop-k
invariant-loop-k l =
    (l.n ≡ length l.inputs) × Going l.sets l.max_rate l.quality l.playback_rate l.initial.s l.initial.ring l.inputs
    l.delays l.initial.out l.s l.ring l.out l.k

abbrev pub decreases-loop-k : goal.decreases-loop-k
decreases-loop-k l = l.n - l.k
