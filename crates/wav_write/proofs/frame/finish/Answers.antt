-- `wav_write::frame::finish` meets its contract: the header, then the pad byte. Assumes nothing.
use mathlib.Core.Path.{ap, ◌∙◌}
use native.Mathlib.Omega.{arith}
use lib.ListN.{length}
use Rattle.wav_write.proofs.Planned.{length-planned}
use Rattle.wav_write.specs.Placing.{padded}
use Rattle.wav_write.proofs.Laid.{length-headed}
use Rattle.wav_write.proofs.frame.finish.Goals as goal

pub put_pad-requires : goal.put_pad-requires
put_pad-requires c =
    let a = c.args in
    let l = length-planned a.kind a.channels a.rate a.count c.requires.planned in
    let n = ap length c.put_head.ensures
    ∙ length-headed a.form a.kind a.channels a.rate a.count a.out.now c.requires in
    record { exact = c.file_length_for-length.ensures ∙ l; long = omega (arith, n, c.requires.holds) }

pub returns : goal.returns
returns c =
    let a = c.args in record {
      value = c.file_length_for-length.ensures ∙ length-planned a.kind a.channels a.rate
          a.count c.requires.planned;
      out_after = c.put_pad.ensures ∙ ap (padded a.kind a.count) c.put_head.ensures;
    }
