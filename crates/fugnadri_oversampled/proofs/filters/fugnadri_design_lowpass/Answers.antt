-- `fugnadri_oversampled::filters::fugnadri_design_lowpass` meets its contract: both parts are
-- those of the design. Assumes nothing.
use mathlib.Core.Path.{ap, ◌∙◌}
use Prim.Native.Nat.{ℕ}
use Rattle.fugnadri_oversampled.specs.Designs.{designs}
use Rattle.fugnadri_oversampled.proofs.filters.fugnadri_design_lowpass.Goals as goal

pub returns : goal.returns
returns c =
    let d = c.design_lowpass in
    ap (λ (n : ℕ). designs n d.new.out) d.ensures.value ∙ ap (designs _) d.ensures.out_after
