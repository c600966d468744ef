use mathlib.Core.Path.{◌≡◌}
use Prim.Native.Nat.{◌≤◌}
use lib.ListN.{drop}
use Rattle.decimals.specs.Reading.{number_up_to}
use Rattle.decimals.proofs.reading.digits.Given as goal

abbrev pub invariant-loop-c : goal.invariant-loop-c
invariant-loop-c l =
    (l.v ≤ l.most) × (number_up_to l.most l.start l.text ≡ number_up_to l.most l.v (drop l.c-index l.text))
