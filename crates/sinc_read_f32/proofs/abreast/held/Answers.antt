-- `sinc_read_f32::abreast::held` meets its contract: the samples are adjacent, or go up to the ring's end and on from
-- its start. Assumes nothing.
use mathlib.Core.Path.{◌∙◌}
use native.Mathlib.Omega.{arith}
use Rattle.sinc_read_f32.proofs.Chains.{one-run, first_run, second_run}
use Rattle.sinc_read_f32.proofs.abreast.held.Goals as goal

pub returns-then-taps-left : goal.returns-then-taps-left
returns-then-taps-left c =
    let a = c.args in record {
      a_value = c.over.ensures.a_value
          ∙ one-run a.source.now a.one.now a.blend a.taps a.phase a.place a.taps c.requires.2
          c.requires.3
          (omega arith);
      b_value = c.over.ensures.b_value
          ∙ one-run a.source.now a.two.now a.blend a.taps a.phase a.place a.taps c.requires.2
          c.requires.3
          (omega arith);
    }

pub returns : goal.returns
returns c =
    let a = c.args in
    let r = c.over-before in
    let one =
    r.ensures.a_value
    ∙ first_run a.source.now a.one.now a.blend a.taps a.phase a.place a.taps c.requires.2
    c.requires.3 in
    let two =
    r.ensures.b_value
    ∙ first_run a.source.now a.two.now a.blend a.taps a.phase a.place a.taps c.requires.2
    c.requires.3 in record {
      a_value = c.over-2.ensures.a_value
          ∙ second_run a.source.now a.one.now a.blend a.taps a.phase a.place a.taps c.requires.2
          c.requires.3 r.result.a (omega arith) one;
      b_value = c.over-2.ensures.b_value
          ∙ second_run a.source.now a.two.now a.blend a.taps a.phase a.place a.taps c.requires.2
          c.requires.3 r.result.b (omega arith) two;
    }
