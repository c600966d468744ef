-- `fugnadri_bank::bank::fugnadri_bank_choose` meets its contract, by the contracts of the functions that it calls.
-- Assumes nothing.
use mathlib.Core.Path.{◌∙◌, ap}
use Rattle.bank_choice.specs.Choosing.{choice_in, number_of as refusal_of}
use Rattle.fugnadri_bank.proofs.bank.fugnadri_bank_choose.Goals as goal

pub returns : goal.returns
returns c =
    let e = c.choose-s.ensures in
    let k = c.choice-c.ensures ∙ ap choice_in e in
    record {
      value = c.refusal.ensures ∙ ap refusal_of e;
      safe_after = ap (λ c. c.safe) k;
      tighter_after =
          ap (λ c. c.tighter) k;
      which_after = ap (λ c. c.which) k;
      blend_after = ap (λ c. c.blend) k;
    }
