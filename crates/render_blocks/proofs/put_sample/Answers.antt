-- `render_blocks::put_sample` meets its contract: four bytes are read and written as one word. Assumes nothing.
use mathlib.Core.Path.{◌∙◌, ap}
use native.Mathlib.Omega.{arith}
use lib.Seq.{take_all}
use Rattle.word_bytes.specs.Bytes.{bytes_value}
use Rattle.render_blocks.proofs.put_sample.Goals as goal

pub returns : goal.returns
returns c =
    let a = c.args in
    let four = c.requires in
    let e =
    rw (c.low_first_u32.ensures ∙ ap bytes_value (take_all 4 a.word.now (omega (arith, four)))) at
    c.step-r.ensures in
    record {
      value = e.state_value;
      ring_after = e.ring_after;
      word_after = c.write_bytes.ensures ∙ rw (four, e.bits_value);
    }
