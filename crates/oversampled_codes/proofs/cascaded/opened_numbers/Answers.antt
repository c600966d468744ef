-- `oversampled_codes::cascaded::opened_numbers` meets its contract, by the two cases. Assumes nothing.
use mathlib.Core.Path.{sym, ap}
use Rattle.oversampled_codes.specs.Openings.{cascaded_numbers}
use Rattle.oversampled_codes.proofs.cascaded.opened_numbers.Goals as goal

pub returns-in-Reader : goal.returns-in-Reader
returns-in-Reader c = sym (ap (cascaded_numbers _) c.in-Reader.is)
