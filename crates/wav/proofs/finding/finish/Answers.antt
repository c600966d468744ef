-- `wav::finding::finish` meets its contract, by the contracts of the functions that it calls; if nothing is refused the
-- channels are one or two, so they fit a byte. Assumes nothing.
use mathlib.Core.Path.{sym, ap, ◌∙◌}
use Prim.Native.Nat.{ℕ}
use native.Mathlib.Omega.{arith}
use Rattle.wav.specs.Wave.{wave_of, answered}
use Rattle.wav.proofs.InHand.{refused, taken, in_order}
use Rattle.wav.proofs.Passed.{few-channels}
use Rattle.wav.proofs.finding.finish.Goals as goal

pub returns-then-refusal-ne0 : goal.returns-then-refusal-ne0
returns-then-refusal-ne0 c =
    let a = c.args in
    let e =
    in_order a.wave a.inside a.tag a.f.now a.walked c.format_ok.ensures
    c.first-refusal.ensures in
    refused _ (wave_of a.tag a.f.now a.walked) c.if-refusal-ne0.true
    ∙ ap (λ (k : ℕ). answered k (wave_of a.tag a.f.now a.walked)) e

pub overflow_cast-result : goal.overflow_cast-result
overflow_cast-result c =
    let a = c.args in
    let e =
    in_order a.wave a.inside a.tag a.f.now a.walked c.format_ok.ensures
    c.first-refusal.ensures in
    omega (
      arith,
      few-channels a.wave a.inside a.tag a.f.now a.walked (sym e ∙ c.if-refusal-ne0.false),
      c.two-channels.ensures.value,
    )

pub returns : goal.returns
returns c =
    let a = c.args in
    let e =
    in_order a.wave a.inside a.tag a.f.now a.walked c.format_ok.ensures
    c.first-refusal.ensures in
    rw (
      c.kind_of-kind.ensures,
      c.two.ensures.value,
      c.two-channels.ensures.value,
      c.low_first_u32-rate.ensures,
    )
    (taken _ (wave_of a.tag a.f.now a.walked) (sym e ∙ c.if-refusal-ne0.false))
