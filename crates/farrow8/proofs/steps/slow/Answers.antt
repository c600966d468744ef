-- `farrow8::steps::slow` meets its contract: seven fused steps. Assumes nothing.
use mathlib.Core.Path.{◌∙◌, ap}
use lib.Ieee.{Float}
use Rattle.farrow8.specs.Kernel.{step}
use Rattle.farrow8.proofs.steps.slow.Goals as goal

pub returns : goal.returns
returns c =
    let a = c.args in
    let e1 = c.fused64-p6.ensures in
    let e2 =
    c.fused64-p5.ensures
    ∙ ap (λ (z : Float). step a.mu z a.s.s5) e1 in
    let e3 = c.fused64-p4.ensures ∙ ap (λ (z : Float). step a.mu z a.s.s4) e2 in
    let e4 = c.fused64-p3.ensures ∙ ap (λ (z : Float). step a.mu z a.s.s3) e3 in
    let e5 = c.fused64-p2.ensures ∙ ap (λ (z : Float). step a.mu z a.s.s2) e4 in
    let e6 = c.fused64-p1.ensures ∙ ap (λ (z : Float). step a.mu z a.s.s1) e5 in
    c.fused64.ensures ∙ ap (λ (z : Float). step a.mu z a.s.s0) e6
