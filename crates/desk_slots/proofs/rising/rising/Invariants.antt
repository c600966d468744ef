use mathlib.Core.Path.{◌≡◌}
use lib.ListN.{drop}
use Rattle.sinc_settings.specs.Ranges.{one-f}
use Rattle.desk_slots.specs.Rising.{rising_from}
use Rattle.desk_slots.proofs.rising.rising.Given as goal

abbrev pub invariant-loop-i : goal.invariant-loop-i
invariant-loop-i l = rising_from one-f l.rates l.marks ≡ rising_from l.low (drop l.i l.rates) (drop l.i l.marks)
