-- `riff_chunks::turns::is_last` meets its contract, by its two cases. Assumes nothing.
use Rattle.riff_chunks.proofs.turns.is_last.Goals as goal

pub returns-then-sought : goal.returns-then-sought
returns-then-sought c = simp c.if-sought.true

pub returns : goal.returns
returns c = simp c.if-sought.false
