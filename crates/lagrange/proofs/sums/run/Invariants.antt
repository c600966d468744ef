use mathlib.Core.Path.{◌≡◌}
use Prim.Native.Nat.{◌+◌}
use lib.ListN.{get_or}
use lib.Ieee.{nan}
use Rattle.loop_laws.specs.Loops.{fold}
use Rattle.lagrange.specs.Eights.{tap_turn}
use Rattle.lagrange.proofs.sums.run.Given as goal

abbrev pub invariant-loop-k : goal.invariant-loop-k
invariant-loop-k l =
    l.sum ≡ fold (tap_turn (λ kk. get_or l.source (l.place + kk) nan) l.w) l.sum-2 l.k
