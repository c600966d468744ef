-- `report_tests::in_24` meets its contract: a 32-bit value is read back from its word. Assumes nothing.
use mathlib.Core.Path.{ap, ◌∙◌}
use mir.Syntax.{w32}
use mir.ValLaws.{to_z-of_z}
use Rattle.report_tests.specs.Tests.{in24}
use Rattle.report_tests.proofs.in_24.Goals as goal

pub returns : goal.returns
returns c = c.both.ensures ∙ ap in24 (to_z-of_z w32 c.args.x c.ranges.x)

pub both-requires : goal.both-requires
both-requires c = tt
