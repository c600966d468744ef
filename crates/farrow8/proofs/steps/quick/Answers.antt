-- `farrow8::steps::quick` meets its contract: if the result is finite, every step was decided. Assumes nothing.
use mathlib.Core.Path.{◌∙◌, ap}
use lib.Ieee.{Float}
use Rattle.farrow8.specs.Kernel.{step}
use Rattle.farrow8.proofs.steps.quick.Goals as goal

pub returns : goal.returns
returns c = λ f7.
    let a = c.args in
    let f6 = c.near_fused.ensures.sure.factor f7 in
    let f5 = c.near_fused-p1.ensures.sure.factor f6 in
    let f4 = c.near_fused-p2.ensures.sure.factor f5 in
    let f3 = c.near_fused-p3.ensures.sure.factor f4 in
    let f2 = c.near_fused-p4.ensures.sure.factor f3 in
    let f1 = c.near_fused-p5.ensures.sure.factor f2 in
    let e1 = c.near_fused-p6.ensures.sure.is f1 in
    let e2 =
    c.near_fused-p5.ensures.sure.is f2
    ∙ ap (λ (z : Float). step a.mu z a.s.s5) e1 in
    let e3 =
    c.near_fused-p4.ensures.sure.is f3
    ∙ ap (λ (z : Float). step a.mu z a.s.s4) e2 in
    let e4 =
    c.near_fused-p3.ensures.sure.is f4 ∙ ap (λ (z : Float). step a.mu z a.s.s3) e3 in
    let e5 = c.near_fused-p2.ensures.sure.is f5 ∙ ap (λ (z : Float). step a.mu z a.s.s2) e4 in
    let e6 = c.near_fused-p1.ensures.sure.is f6 ∙ ap (λ (z : Float). step a.mu z a.s.s1) e5 in
    c.near_fused.ensures.sure.is f7 ∙ ap (λ (z : Float). step a.mu z a.s.s0) e6
