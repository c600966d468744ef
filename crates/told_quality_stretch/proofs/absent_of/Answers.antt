-- `told_quality_stretch::absent_of` meets its contract: it counts from the state's fade and the rate's sets. Assumes
-- nothing.
use mathlib.Core.Path.{◌∙◌}
use Rattle.told_quality_stretch.proofs.absent_of.Goals as goal

pub returns : goal.returns
returns c = c.absent_in.ensures ∙ rw c.choice_or_zero-choice.ensures
