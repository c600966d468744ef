-- `wav::read_by` meets its contract: the values that its calls give are those that the definitions name. Assumes
-- nothing.
use mathlib.Core.Path.{◌∙◌}
use Rattle.wav_format.specs.Tags.{tag_by}
use Rattle.wav.proofs.InHand.{past, in-hand, found-is}
use Rattle.wav.proofs.read_by.Goals as goal

pub returns-then-file-end : goal.returns-then-file-end
returns-then-file-end c =
    let b = c.args.file.now in
    rw (c.past.ensures, c.is_wave.ensures)
    (past (tag_by c.args.wrapped) b (rw c.low_first_u32-size.ensures at c.if-file-end.true))

pub returns : goal.returns
returns c =
    let b = c.args.file.now in
    let by = tag_by c.args.wrapped in
    let h = in-hand by b _ c.walk-walked.result c.part_of-f.result.now _
    c.low_first_u32-size.ensures c.walk-walked.ensures c.part_of-f.ensures c.tag_of-tag.ensures in
    c.finish.ensures
    ∙ found-is by b c.walk-walked.result _ _ h _ _ c.is_wave-2.ensures c.within.ensures
