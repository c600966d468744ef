-- `oscillator_arithmetic::power_of_two` meets its contract: it takes the value out of the answer. Assumes nothing.
use mathlib.Core.Path.{◌∙◌}
use Rattle.elementary.specs.Answers.{exp2_of}
use Rattle.oscillator_arithmetic.specs.Arithmetic.{pow2}
use Rattle.oscillator_arithmetic.proofs.AnswerValues.{value-is}
use Rattle.oscillator_arithmetic.proofs.power_of_two.Goals as goal

pub returns : goal.returns
unfolding pow2
returns c = c.exp2_or_zero.ensures ∙ value-is (exp2_of c.args.x)

pub exp2_or_zero-requires : goal.exp2_or_zero-requires
exp2_or_zero-requires c = tt
