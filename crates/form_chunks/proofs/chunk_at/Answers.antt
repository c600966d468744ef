-- `form_chunks::chunk_at` meets its contract, by the contracts of the functions that it calls. Assumes nothing.
use Rattle.form_chunks.proofs.chunk_at.Goals as goal

pub returns : goal.returns
returns c = rw (c.low_first_u32-id.ensures, c.four-size.ensures)
