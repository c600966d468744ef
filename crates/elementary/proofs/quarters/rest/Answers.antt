-- `elementary::quarters::rest` meets its contract: `ExactRemainder` shows that each of its steps is exact. Assumes
-- nothing.
use mathlib.Core.Path.{sym, subst}
use lib.Dec.{T}
use lib.Ieee.{of_bits}
use Rattle.elementary.proofs.ExactRemainder.{rest-law}
use Rattle.elementary.proofs.quarters.rest.Goals as goal

pub returns : goal.returns
unfolding of_bits
returns c =
    rest-law c.args.x c.args.j (subst T (sym c.well_formed.0.1) tt) c.requires.fact_1 c.requires.fact_2
    c.requires.fact_3
