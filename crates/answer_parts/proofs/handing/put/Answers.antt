-- `answer_parts::handing::put` meets its contract: in the logic there is one NaN, so what is written for a NaN is the
-- sample itself. Assumes nothing.
use mathlib.Core.Path.{refl}
use Rattle.answer_parts.proofs.handing.put.Goals as goal

pub returns-then-y : goal.returns-then-y
returns-then-y c = record { sample_after = c.one_nan.ensures; accepted_after = refl }
