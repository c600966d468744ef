-- `oscillator_arithmetic::cosine` meets its contract: it takes the value out of the answer. Assumes nothing.
use mathlib.Core.Path.{◌∙◌}
use Rattle.elementary.specs.Answers.{cosine_of}
use Rattle.oscillator_arithmetic.specs.Arithmetic.{cos}
use Rattle.oscillator_arithmetic.proofs.AnswerValues.{value-is}
use Rattle.oscillator_arithmetic.proofs.cosine.Goals as goal

pub returns : goal.returns
unfolding cos
returns c = c.cosine_or_zero.ensures ∙ value-is (cosine_of c.args.x)

pub cosine_or_zero-requires : goal.cosine_or_zero-requires
cosine_or_zero-requires c = tt
