use mathlib.Core.Path.{◌≡◌}
use lib.ListN.{take}
use Rattle.report_tests.specs.Tests.{all24}
use Rattle.report_tests.proofs.all_24.Given as goal

abbrev pub invariant-loop-x : goal.invariant-loop-x
invariant-loop-x l = l.ok ≡ all24 (take l.x-index l.s)
