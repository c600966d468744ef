-- `stretch_call::refused_first` meets its contract: the length that the settings need is 0 exactly if they are out of
-- range, and then no length counts. Assumes nothing.
use mathlib.Core.Path.{refl}
use mathlib.Core.Bool.{Bool, true, ◌&&◌}
use lib.Dec.{eqb, leb}
use Rattle.constants.specs.Numbers.{limit}
use Rattle.answer.specs.Refusals.{lowest_of}
use Rattle.variable_delay.proofs.Settings.{settled}
use Rattle.stretch_call.proofs.refused_first.Goals as goal

pub returns : goal.returns
returns c =
    let a = c.args in
    let same = eqb a.delays a.inputs && eqb a.out a.inputs in
    rw (
      c.first.ensures,
      c.both-t2.ensures,
      c.both.ensures,
      c.both-fits.ensures,
      c.both-t1.ensures,
    )
    (settled a.state.maximum a.state.margin a.len c.length_for-needed.result
    (λ (t u : Bool).
    lowest_of (t && a.own) ((u && a.lent) && same) (leb a.state.accepted limit) true true true true true)
    (λ t u. refl) c.length_for-needed.ensures)
