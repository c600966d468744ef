-- `residual::checks::due` meets its contract, by the contracts of the tests, in the order of 01. Assumes nothing.
use Rattle.std.proofs.Common.{◌∙◌}
use Rattle.residual.specs.Refusals.{verdict}
use Rattle.residual.proofs.checks.due.Goals as goal

pub returns : goal.returns
unfolding verdict
returns c =
    c.first.ensures ∙ rw (
      c.fits-t8.ensures,
      c.report_ok-t3.ensures,
      c.both-t1.ensures,
      c.all_24-2.ensures,
      c.all_24.ensures,
    )
