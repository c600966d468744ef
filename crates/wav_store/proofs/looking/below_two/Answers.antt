-- `wav_store::looking::below_two` meets its contract, by its two cases. Assumes nothing.
use lib.Ieee.{of_bits}
use Rattle.wav_store.proofs.looking.below_two.Goals as goal

pub returns-then-x : goal.returns-then-x
unfolding of_bits
returns-then-x c = rw c.if-x.true

pub returns-else-x : goal.returns-else-x
unfolding of_bits
returns-else-x c = rw c.if-x.false
