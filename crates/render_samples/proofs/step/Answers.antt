-- `render_samples::step` meets its contract, by `stepped`. Assumes nothing.
use lib.Ieee.{binary32, of_bits}
use Rattle.render_samples.specs.Samples.{held_of}
use Rattle.render_samples.proofs.Steps.{stepped}
use Rattle.render_samples.proofs.step.Goals as goal

pub returns : goal.returns
returns c =
    let s = c.args in
    let both = stepped s.table.now (held_of s.state s.ring.now) (of_bits binary32 s.bits)
    c.default_params.ensures
    c.next-n.ensures
    c.float_of_f32-x.ensures
    c.delay_of.ensures
    c.process_sample-p.ensures.value
    c.process_sample-p.ensures.ring_after
    c.value_f32.ensures
    c.bits_of_f32.ensures in
    record { state_value = both.0; bits_value = both.1.0; ring_after = both.1.1 }
