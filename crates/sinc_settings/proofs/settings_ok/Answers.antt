-- `sinc_settings::settings_ok` meets its contract, test by test. Assumes nothing.
use mathlib.Core.Path.{◌∙◌}
use lib.Ieee.{of_bits}
use Rattle.sinc_settings.proofs.settings_ok.Goals as goal

pub returns : goal.returns
unfolding of_bits
returns c =
    c.both-3.ensures
    ∙ rw (
      c.both-2.ensures,
      c.within-2.ensures,
      c.within.ensures,
      c.both.ensures,
      c.phases_ok.ensures,
      c.taps_ok.ensures,
    )
