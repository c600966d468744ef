-- `fugnadri_oversampled::filters::fugnadri_filter_outputs` meets its contract: it hands out both answers of `outputs`.
-- Assumes nothing.
use mathlib.Core.Path.{ap, ◌∙◌}
use lib.Ieee.{Float}
use Rattle.fir_filter.specs.Pairs.{two_of}
use Rattle.fugnadri_oversampled.proofs.filters.fugnadri_filter_outputs.Goals as goal

pub returns : goal.returns
returns c =
    ap (λ (x : Float). two_of x c.one_nan-2.result) c.one_nan.ensures
    ∙ ap (two_of c.outputs-both.result.first) c.one_nan-2.ensures
    ∙ c.outputs-both.ensures
