-- `lagrange::sums::run` meets its contract: after k turns the sum is the fold of k turns. Assumes nothing.
use mathlib.Core.Path.{refl, ◌∙◌, ap}
use Prim.Native.Nat.{ℕ, ◌+◌}
use native.Mathlib.Omega.{arith}
use lib.ListN.{get_or}
use lib.Ieee.{nan}
use Rattle.loop_laws.specs.Loops.{fold}
use Rattle.loop_laws.proofs.Folds.{none, turn}
use Rattle.lagrange.specs.Eights.{tap_turn}
use Rattle.lagrange.proofs.sums.run.Goals as goal

pub loop-k-init : goal.loop-k-init
loop-k-init c = none _ _

pub loop-k-preserved : goal.loop-k-preserved
loop-k-preserved c =
    let a = c.args in
    turn (tap_turn (λ k. get_or a.source.now (a.place + k) nan) a.w) a.sum c.loop-k.k c.loop-k.sum _
    c.loop-k.invariant refl

pub returns : goal.returns
returns c =
    let a = c.args in
    c.loop-k.invariant
    ∙ ap (fold (tap_turn (λ (k : ℕ). get_or a.source.now (a.place + k) nan) a.w) a.sum) (omega arith)
