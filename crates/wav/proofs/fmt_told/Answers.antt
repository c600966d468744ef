-- `wav::fmt_told` meets its contract, by the contracts of the functions that it calls. Assumes nothing.
use mathlib.Core.Path.{refl}
use Rattle.wav_format.specs.Format.{tag}
use Rattle.wav_format.specs.Tags.{plain_tag}
use Rattle.wav.proofs.InHand.{in-hand, told_is}
use Rattle.wav.proofs.fmt_told.Goals as goal

pub returns : goal.returns
returns c =
    let b = c.args.file.now in
    let f = c.part_of-f.result.now in
    let h = in-hand plain_tag b _ c.walk-walked.result f (tag f) c.low_first_u32-size.ensures c.walk-walked.ensures
    c.part_of-f.ensures refl in
    rw (c.two.ensures.value, c.two-2.ensures.value, c.two-3.ensures.value, c.two-4.ensures.value)
    (told_is plain_tag b c.walk-walked.result f (tag f) h)
