-- `fugnadri_numbers::elementary_three::fugnadri_sine` meets its contract, by the contracts of the functions that it
-- calls, which have no premises. Assumes nothing.
use mathlib.Core.Path.{◌∙◌, ap}
use Rattle.elementary.specs.Answers.{refusal_of}
use Rattle.answer_parts.specs.Values.{value_of}
use Rattle.fugnadri_numbers.proofs.elementary_three.fugnadri_sine.Goals as goal

pub returns : goal.returns
returns c =
    let e = c.sine.ensures.value in
    record { value = c.handed.ensures.value ∙ ap refusal_of e; res_after = c.handed.ensures.res_after ∙ ap value_of e }
