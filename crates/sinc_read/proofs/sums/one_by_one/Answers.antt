-- `sinc_read::sums::one_by_one` meets its contract: after k turns the sum is the fold of k turns. Assumes nothing.
use mathlib.Core.Path.{◌≡◌, refl, sym, ◌∙◌, ap, subst}
use Prim.Native.Nat.{ℕ, ◌^◌, ◌≤◌}
use native.Mathlib.Omega.{arith}
use lib.IntN.{ℤ, pos, ◌+ℤ◌}
use lib.Signed.{mag}
use lib.Ieee.{Float, binary64, of_bits}
use mir.Syntax.{w64}
use mir.Val.{to_z, of_z}
use mir.ValLaws.{to_z-of_z}
use Rattle.answer.specs.Answers.{zero-f}
use Rattle.loop_laws.specs.Loops.{fold}
use Rattle.loop_laws.proofs.Folds.{none, turn}
use Rattle.ring.specs.Taps.{tap_of}
use Rattle.sinc_read.specs.Sums.{tap_turn}
use Rattle.sinc_phases.proofs.RowsInTable.{next_row}
use Rattle.sinc_read.proofs.sums.one_by_one.Goals as goal

nothing : of_bits binary64 0 ≡ zero-f
unfolding of_bits
nothing = refl

pub loop-k-init : goal.loop-k-init
loop-k-init c = nothing ∙ none _ _

pub tap_after-x-requires : goal.tap_after-x-requires
tap_after-x-requires c =
    (subst (λ (z : ℤ). mag z ≤ 2 ^ 37) (sym (to_z-of_z w64 c.args.first c.ranges.first)) c.requires.2, omega arith)

pub loop-k-preserved : goal.loop-k-preserved
loop-k-preserved c =
    let a = c.args in
    let x : ℕ → Float = λ (k : ℕ). tap_of a.source.now a.count (to_z w64 (of_z w64 a.first) +ℤ pos k) in
    turn (tap_turn x a.table.now a.blend a.taps a.phase) zero-f c.loop-k.k c.loop-k.sum _
    c.loop-k.invariant (rw (c.tap_after-x.ensures, next_row a.phase a.taps))

pub returns : goal.returns
returns c =
    let a = c.args in
    c.loop-k.invariant
    ∙ ap (λ (z : ℤ). fold
    (tap_turn (λ (k : ℕ). tap_of a.source.now a.count (z +ℤ pos k)) a.table.now a.blend a.taps
    a.phase) zero-f c.loop-k.k)
    (to_z-of_z w64 a.first c.ranges.first)
    ∙ ap (fold
    (tap_turn (λ (k : ℕ). tap_of a.source.now a.count (a.first +ℤ pos k)) a.table.now a.blend
    a.taps a.phase) zero-f) (omega arith)
