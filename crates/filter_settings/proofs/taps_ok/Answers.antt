-- `filter_settings::taps_ok` meets its contract, test by test. Assumes nothing.
use mathlib.Core.Path.{◌∙◌}
use Rattle.filter_settings.proofs.taps_ok.Goals as goal

pub returns : goal.returns
returns c = c.both-2.ensures ∙ rw c.both.ensures
