-- `fugnadri_numbers::elementary_three::fugnadri_sine_value` meets its contract, by the contracts of the functions that
-- it calls, which have no premises. Assumes nothing.
use mathlib.Core.Path.{◌∙◌, ap}
use Rattle.answer_parts.specs.Values.{value_of}
use Rattle.fugnadri_numbers.proofs.elementary_three.fugnadri_sine_value.Goals as goal

pub returns : goal.returns
returns c = c.value.ensures ∙ ap value_of c.sine.ensures.value
