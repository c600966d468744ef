-- `desk_slots::guess::there` meets its contract, by its tests. Assumes nothing.
use mathlib.Core.Path.{sym, ◌∙◌}
use mathlib.Core.Bool.{false≢true}
use native.Mathlib.Omega.{arith}
use Rattle.desk_slots.proofs.guess.there.Goals as goal

pub returns-then-k-marks : goal.returns-then-k-marks
returns-then-k-marks c =
    λ h. (
      omega (arith, c.if-k-marks.true, c.if-k-rates.true),
      sym (c.both-then-k-marks.ensures
          ∙ rw (c.both.ensures, c.in_mode.ensures, c.held_by.ensures)) ∙ h,
    )

pub returns-else-k-marks : goal.returns-else-k-marks
returns-else-k-marks = (λ c h. absurd (false≢true h))

pub returns-else-k-rates : goal.returns-else-k-rates
returns-else-k-rates = (λ c h. absurd (false≢true h))
