use mathlib.Core.Path.{◌≡◌}
use Prim.Native.Nat.{◌+◌}
use lib.IntN.{pos, ◌+ℤ◌}
use Rattle.loop_laws.specs.Loops.{fold}
use Rattle.ring.specs.Taps.{tap_of}
use Rattle.lagrange.specs.Eights.{tap_turn}
use Rattle.lagrange.proofs.sums.one_by_one.Given as goal

abbrev pub invariant-loop-k : goal.invariant-loop-k
invariant-loop-k l =
    l.sum ≡ fold (tap_turn (λ kk. tap_of l.source l.count (l.base +ℤ pos (l.first + kk))) l.w) l.sum-2 l.k
