-- `long_wav::heads::chunk_at` meets its contract by those of its calls. Assumes nothing.
use Rattle.long_wav.proofs.heads.chunk_at.Goals as goal

pub returns : goal.returns
returns c =
    rw (c.true_size.ensures, c.low_first_u32-field.ensures, c.low_first_u32-id.ensures)
