-- `aiff::chunks_told` meets its contract, by the contracts of the functions that it calls. Assumes nothing.
use Rattle.aiff.proofs.InHand.{in-hand, told_is}
use Rattle.aiff.proofs.chunks_told.Goals as goal

pub returns : goal.returns
returns c =
    let b = c.args.file.now in
    let h = in-hand b _ c.walk-walked.result _ _ c.four-size.ensures c.walk-walked.ensures c.head_of-c.ensures
    c.head_of-s.ensures in
    rw (
      c.two.ensures.value,
      c.four.ensures,
      c.two-2.ensures.value,
      c.two-3.ensures.value,
      c.eight.ensures,
      c.four-2.ensures,
    )
    (told_is b c.walk-walked.result _ _ h)
