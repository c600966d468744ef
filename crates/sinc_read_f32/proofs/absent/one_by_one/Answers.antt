-- `sinc_read_f32::absent::one_by_one` meets its contract: after k turns the sum is the fold of k turns, and is an f32.
-- Assumes nothing.
use mathlib.Core.Path.{sym, ◌∙◌, ap, subst}
use Prim.Native.Nat.{ℕ, ◌^◌, ◌≤◌}
use native.Mathlib.Omega.{arith}
use lib.Dec.{T}
use lib.IntN.{ℤ, pos, ◌+ℤ◌}
use lib.Signed.{mag}
use lib.Ieee.{Float, binary32, binary64, fits}
use mir.Syntax.{w64}
use mir.Val.{to_z, of_z}
use mir.ValLaws.{to_z-of_z}
use Rattle.answer.specs.Answers.{zero-f}
use Rattle.loop_laws.specs.Loops.{fold}
use Rattle.loop_laws.proofs.Folds.{none, turn}
use Rattle.rounding.proofs.Fusing.{fused-fits}
use Rattle.rounding.proofs.RoundsToItself.{narrowed-own}
use Rattle.rounding.proofs.Sums.{zero_bits}
use Rattle.ring.specs.Taps.{tap_of}
use Rattle.sinc_phases.proofs.RowsInTable.{next_row}
use Rattle.sinc_read_f32.specs.Sums.{tap_turn}
use Rattle.sinc_read_f32.proofs.absent.one_by_one.Goals as goal

pub loop-k-init : goal.loop-k-init
unfolding fits
loop-k-init c = (
  subst (λ (z : Float). T (fits binary32 z)) (sym (zero_bits binary64)) tt,
  zero_bits binary64 ∙ none _ _,
)

pub tap_after-x-requires : goal.tap_after-x-requires
tap_after-x-requires c =
    (subst (λ (z : ℤ). mag z ≤ 2 ^ 37) (sym (to_z-of_z w64 c.args.first c.ranges.first)) c.requires.2, omega arith)

pub loop-k-preserved : goal.loop-k-preserved
loop-k-preserved c =
    let a = c.args in
    let x : ℕ → Float = λ (k : ℕ). tap_of a.source.now a.count (to_z w64 (of_z w64 a.first) +ℤ pos k) in (
      subst (λ (z : Float). T (fits binary32 z)) (sym c.step-held.ensures) (fused-fits binary32 _ _ _),
      turn (tap_turn x a.table.now a.blend a.taps a.phase) zero-f c.loop-k.k c.loop-k.held _
          c.loop-k.invariant.1 (c.step-held.ensures ∙ rw (c.tap_after-x.ensures, next_row a.phase a.taps)),
    )

pub returns : goal.returns
returns c =
    let a = c.args in
    c.narrow.ensures
    ∙ narrowed-own c.loop-k.held c.loop-k.invariant.0
    ∙ c.loop-k.invariant.1
    ∙ ap (λ (z : ℤ). fold
    (tap_turn (λ (k : ℕ). tap_of a.source.now a.count (z +ℤ pos k)) a.table.now a.blend a.taps
    a.phase) zero-f c.loop-k.k)
    (to_z-of_z w64 a.first c.ranges.first)
    ∙ ap (fold
    (tap_turn (λ (k : ℕ). tap_of a.source.now a.count (a.first +ℤ pos k)) a.table.now a.blend
    a.taps a.phase) zero-f) (omega arith)
