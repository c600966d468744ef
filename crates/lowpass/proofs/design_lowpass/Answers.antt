-- `lowpass::design_lowpass` meets its contract: it writes the coefficients, then divides each by their sum. Assumes
-- nothing.
use mathlib.Core.Path.{◌≡◌, sym, ◌∙◌}
use lib.ListN.{length}
use Rattle.filter_settings.specs.Ranges.{design_verdict}
use Rattle.lowpass.proofs.Designs.{accepted, refused, written}
use Rattle.lowpass.proofs.design_lowpass.Goals as goal
use Rattle.lowpass.proofs.design_lowpass.Goals.{Else-no-ne0}

pub returns-then-no-ne0 : goal.returns-then-no-ne0
returns-then-no-ne0 c =
    let a = c.args in
    let e = c.design_refusal-no.ensures in
    record { value = e; out_after = refused a.taps a.cutoff a.beta _ _ e c.if-no-ne0.true }

passed : (c : Else-no-ne0) → let a = c.args in
    design_verdict a.taps a.cutoff a.beta (length a.out.now) ≡ 0
passed c = sym c.design_refusal-no.ensures ∙ c.if-no-ne0.false

pub fill-gain-requires : goal.fill-gain-requires
fill-gain-requires c = let r = accepted _ _ _ _ (passed (goal.at.fill-gain-requires c).Else-no-ne0) in
    (r.settings, r.long)

pub returns : goal.returns
returns c =
    let a = c.args in record {
      value = sym (passed (goal.at.returns c).Else-no-ne0);
      out_after = written a.taps a.cutoff a.beta a.out.now _ _ c.fill-gain.result
          (passed (goal.at.returns c).Else-no-ne0) c.fill-gain.ensures.value
          c.fill-gain.ensures.out_after c.divide.ensures;
    }
