-- `fir_filter::push` meets its contract: one NaN for another is the same sample. Assumes nothing.
use mathlib.Core.Path.{ap, ◌∙◌}
use Rattle.fir_filter.specs.Filters.{pushed}
use Rattle.fir_filter.proofs.push.Goals as goal

pub returns : goal.returns
returns c =
    let a = c.args in
    c.push_number.ensures ∙ ap (pushed a.history.now a.pushes) c.one_nan.ensures
