-- `fugnadri_oversampled::filters::fugnadri_filter_output` meets its contract: it hands out the
-- answer of `output`. Assumes nothing.
use mathlib.Core.Path.{◌∙◌}
use Rattle.fugnadri_oversampled.proofs.filters.fugnadri_filter_output.Goals as goal

pub returns : goal.returns
returns c = c.one_nan.ensures ∙ c.output.ensures
