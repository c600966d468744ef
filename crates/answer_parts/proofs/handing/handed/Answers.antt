-- `answer_parts::handing::handed` meets its contract, by the two cases; the literal 0.0 is +0.0. Assumes nothing.
use mathlib.Core.Path.{refl, sym, ap, ◌∙◌}
use lib.Ieee.{of_bits}
use Rattle.answer.specs.Answers.{number_of, value_of}
use Rattle.answer_parts.proofs.handing.handed.Goals as goal

pub returns-in-Sample : goal.returns-in-Sample
returns-in-Sample c = let e = c.in-Sample.is in let p = c.put.ensures in
    record {
      value = sym (ap number_of e);
      sample_after = p.sample_after ∙ sym (ap value_of e);
      accepted_after =
          p.accepted_after;
    }

pub returns-in-Refused : goal.returns-in-Refused
unfolding of_bits
returns-in-Refused c = let e = c.in-Refused.is in
    record { value = sym (ap number_of e); sample_after = sym (ap value_of e); accepted_after = refl }
