-- `lagrange::sums::one_by_one` meets its contract: after k turns the sum is the fold of k turns. Assumes nothing.
use mathlib.Core.Path.{sym, ◌∙◌, ap, subst}
use Prim.Native.Nat.{ℕ, ◌+◌, ◌^◌, ◌≤◌}
use native.Mathlib.Omega.{arith}
use lib.IntN.{ℤ, pos, ◌+ℤ◌}
use lib.Signed.{mag}
use mir.Syntax.{w64}
use mir.Val.{to_z, of_z}
use mir.ValLaws.{to_z-of_z}
use Rattle.loop_laws.specs.Loops.{fold}
use Rattle.loop_laws.proofs.Folds.{none, turn}
use Rattle.ring.specs.Taps.{tap_of}
use Rattle.lagrange.specs.Eights.{tap_turn}
use Rattle.lagrange.proofs.sums.one_by_one.Goals as goal

pub loop-k-init : goal.loop-k-init
loop-k-init c = none _ _

pub tap_after-requires : goal.tap_after-requires
tap_after-requires c =
    (subst (λ (z : ℤ). mag z ≤ 2 ^ 37) (sym (to_z-of_z w64 c.args.base c.ranges.base)) c.requires.0, omega arith)

pub loop-k-preserved : goal.loop-k-preserved
loop-k-preserved c =
    let a = c.args in
    turn (tap_turn (λ k. tap_of a.source.now a.count (to_z w64 (of_z w64 a.base) +ℤ pos (a.first + k))) a.w) a.sum
    c.loop-k.k c.loop-k.sum _ c.loop-k.invariant (rw c.tap_after.ensures)

pub returns : goal.returns
returns c =
    let a = c.args in
    c.loop-k.invariant
    ∙ ap
    (λ (z : ℤ). fold (tap_turn (λ (k : ℕ). tap_of a.source.now a.count (z +ℤ pos (a.first + k))) a.w)
    a.sum c.loop-k.k) (to_z-of_z w64 a.base c.ranges.base)
    ∙ ap
    (fold (tap_turn (λ (k : ℕ). tap_of a.source.now a.count (a.base +ℤ pos (a.first + k))) a.w)
    a.sum) (omega arith)
