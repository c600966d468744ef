use mathlib.Core.Path.{◌≡◌}
use Prim.Native.Nat.{◌-◌}
use lib.ListN.{length}
use Rattle.bank_choice.specs.Inner.{choice_of}
use Rattle.quality_stretch.proofs.AtRest.{On}
use Rattle.quality_stretch.proofs.rest.read_each.Given as goal

abbrev pub invariant-loop-k : goal.invariant-loop-k
invariant-loop-k l =
    (l.n ≡ length l.inputs) × (l.choice ≡ choice_of l.max_rate l.playback_rate)
    × On l.sets l.max_rate l.quality l.playback_rate l.state l.initial.ring l.inputs l.delays l.initial.out l.ring l.out
    l.i l.k

abbrev pub decreases-loop-k : goal.decreases-loop-k
decreases-loop-k l = l.n - l.k
