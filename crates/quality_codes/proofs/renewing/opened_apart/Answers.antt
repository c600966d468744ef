-- `quality_codes::renewing::opened_apart` meets its contract, by the two cases; the literal 0.0 is +0.0. Assumes
-- nothing.
use mathlib.Core.Path.{sym, ap}
use lib.Ieee.{of_bits}
use Rattle.quality_codes.specs.Calls.{opened_apart}
use Rattle.quality_codes.proofs.renewing.opened_apart.Goals as goal

pub returns-in-Reader : goal.returns-in-Reader
unfolding of_bits
returns-in-Reader c = rw c.encode.ensures (sym (ap (opened_apart _) c.in-Reader.is))

pub returns-in-Refused : goal.returns-in-Refused
unfolding of_bits
returns-in-Refused c = sym (ap (opened_apart _) c.in-Refused.is)
