-- `sinc_bank_f32::parts::chosen` meets its contract: it is the part of one set or of the other. Assumes nothing.
use Rattle.sinc_bank_f32.proofs.parts.chosen.Goals as goal

pub returns-then-tight : goal.returns-then-tight
returns-then-tight c = rw c.if-tight.true c.part.ensures

pub returns : goal.returns
returns c = rw c.if-tight.false c.part-2.ensures
