-- `file_layout::layout_of` meets its contract by those of its calls. Assumes nothing.
use mathlib.Core.Path.{ap, ◌∙◌}
use Rattle.file_layout.specs.Layouts.{layout_by}
use Rattle.file_layout.proofs.layout_of.Goals as goal

pub returns : goal.returns
returns c = c.layout_by.ensures ∙ ap layout_by c.low_first_u32.ensures
