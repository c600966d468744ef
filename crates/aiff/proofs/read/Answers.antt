-- `aiff::read` meets its contract: the values that its calls give are those that the definitions name. Assumes nothing.
use mathlib.Core.Path.{◌∙◌}
use Rattle.aiff.proofs.InHand.{in-hand, found-is}
use Rattle.aiff.proofs.read.Goals as goal

pub returns : goal.returns
returns c =
    let b = c.args.file.now in
    let h = in-hand b _ c.walk-walked.result _ _ c.four-size.ensures c.walk-walked.ensures c.head_of-c.ensures
    c.head_of-s.ensures in
    c.finish.ensures ∙ found-is b _ _ _ h _ _ c.is_aiff.ensures c.four-size.ensures
