-- `file_turns::fmt_told` meets its contract, field by field. Assumes nothing.
use Rattle.file_turns.proofs.fmt_told.Goals as goal

pub returns : goal.returns
returns c =
    rw (
      c.two-tag.ensures.value,
      c.two-channels.ensures.value,
      c.two-block.ensures.value,
      c.two-bits.ensures.value,
    )
