-- `fugnadri_wander::shapes::fugnadri_maximum_rate_delta` meets its contract, by the contracts of the functions that it
-- calls, which have no premises. Assumes nothing.
use mathlib.Core.Path.{◌∙◌, ap}
use Rattle.elementary.specs.Answers.{refusal_of}
use Rattle.answer_parts.specs.Values.{value_of}
use Rattle.fugnadri_wander.proofs.shapes.fugnadri_maximum_rate_delta.Goals as goal

pub returns : goal.returns
returns c =
    let e = c.maximum_rate_delta.ensures in
    record { value = c.handed.ensures.value ∙ ap refusal_of e; res_after = c.handed.ensures.res_after ∙ ap value_of e }
