-- `filter_settings::design_ok` meets its contract, test by test. Assumes nothing.
use mathlib.Core.Path.{◌∙◌}
use lib.Ieee.{of_bits}
use Rattle.filter_settings.proofs.design_ok.Goals as goal

pub returns : goal.returns
unfolding of_bits
returns c =
    c.both-2.ensures
    ∙ rw (
      c.both.ensures,
      c.within.ensures,
      c.below.ensures,
      c.taps_ok.ensures,
    )
