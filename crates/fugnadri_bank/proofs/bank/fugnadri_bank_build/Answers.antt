-- `fugnadri_bank::bank::fugnadri_bank_build` meets its contract, by the contracts of the functions that it calls.
-- Assumes nothing.
use mathlib.Core.Path.{◌∙◌, ap}
use Rattle.sinc_bank_f32.specs.Building.{number_of}
use Rattle.fugnadri_bank.proofs.bank.fugnadri_bank_build.Goals as goal

pub returns : goal.returns
returns c = let e = c.build.ensures in record {
  value = c.number.ensures ∙ ap number_of e.value;
  sets_after =
      e.sets_after;
}
