-- `residual::checks::report_ok` meets its contract, by those of its two tests. Assumes nothing.
use Rattle.std.proofs.Common.{◌∙◌}
use Rattle.residual.specs.Refusals.{report_ok}
use Rattle.residual.proofs.checks.report_ok.Goals as goal

pub returns : goal.returns
unfolding report_ok
returns c = c.both.ensures ∙ rw (c.numbers_ok.ensures, c.place_ok.ensures)
