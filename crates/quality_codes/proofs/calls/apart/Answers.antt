-- `quality_codes::calls::apart` meets its contract: it takes the parts one after the other. Assumes nothing.
use Rattle.quality_codes.proofs.calls.apart.Goals as goal

pub returns : goal.returns
returns c = rw (c.value_f32.ensures, c.number_f32.ensures, c.encode.ensures)
