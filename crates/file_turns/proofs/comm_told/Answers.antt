-- `file_turns::comm_told` meets its contract, field by field. Assumes nothing.
use Rattle.file_turns.proofs.comm_told.Goals as goal

pub returns : goal.returns
returns c = rw (c.two-channels.ensures.value, c.two-bits.ensures.value)
