-- `sinc_read_f32::absent::silent` meets its contract: after each turn the sum is the fold of the turns so far, whatever
-- the samples before were. Assumes nothing.
use mathlib.Core.Path.{◌∙◌, ap}
use native.Mathlib.Omega.{arith}
use Rattle.answer.specs.Answers.{zero-f}
use Rattle.loop_laws.specs.Loops.{fold}
use Rattle.loop_laws.proofs.Folds.{turn}
use Rattle.sinc_phases.proofs.RowsInTable.{next_row}
use Rattle.sinc_read_f32.specs.Sums.{tap_turn}
use Rattle.sinc_read_f32.proofs.AbsentTaps.{zero-step}
use Rattle.sinc_read_f32.proofs.absent.silent.Goals as goal

pub loop-k-init : goal.loop-k-init
loop-k-init c = λ x none e. e

pub loop-k-preserved : goal.loop-k-preserved
loop-k-preserved c =
    let a = c.args in
    λ x none e. turn (tap_turn x a.table.now a.blend a.taps a.phase) zero-f c.loop-k.k c.loop-k.sum _
    (c.loop-k.invariant x none e)
    (zero-step _ _ ∙ rw (none c.loop-k.k (omega arith) (omega arith), next_row a.phase a.taps))

pub returns : goal.returns
returns c =
    let a = c.args in
    λ x none e. c.loop-k.invariant x none e
    ∙ ap (fold (tap_turn x a.table.now a.blend a.taps a.phase) zero-f) (omega arith)
