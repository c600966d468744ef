-- `quality_stretch::items::value` meets its contract, by the two cases; the literal 0.0 is +0.0. Assumes nothing.
use mathlib.Core.Path.{sym, ap}
use lib.Ieee.{of_bits}
use Rattle.answer.specs.Answers.{value_f32_of}
use Rattle.quality_stretch.proofs.items.value.Goals as goal

pub returns-in-Refused : goal.returns-in-Refused
unfolding of_bits
returns-in-Refused c = sym (ap value_f32_of c.in-Refused.is)
