-- `absent_qualities::of_turn` meets its contract, by whether the call is mixed. Assumes nothing.
use mathlib.Core.Path.{sym, ◌∙◌, subst}
use Rattle.ring.specs.Length.{zeros}
use Rattle.absent_qualities.specs.Readings.{Few}
use Rattle.absent_qualities.proofs.Readings.{few}
use Rattle.absent_qualities.proofs.of_turn.Goals as goal

pub plus-requires : goal.plus-requires
plus-requires c =
    let a = c.args in (
      subst Few (sym c.of_quality-first.ensures)
          (few a.choice (zeros a.len) a.count a.position a.turn.from),
      subst Few (sym c.of_quality-second.ensures)
          (few a.choice (zeros a.len) a.count a.position a.turn.to),
    )

pub returns-then-turn : goal.returns-then-turn
returns-then-turn c =
    c.plus.ensures ∙ rw (c.of_quality-first.ensures, c.of_quality-second.ensures, c.if-turn.true)

pub returns : goal.returns
returns c = c.of_quality-second.ensures ∙ rw c.if-turn.false
