-- `wav_store::floats::larger` meets its contract, by its two cases. Assumes nothing.
use lib.Ieee.{nan_bits, of_bits}
use Rattle.wav_store.proofs.floats.larger.Goals as goal

pub float_from_bits-least : goal.float_from_bits-least
unfolding nan_bits
float_from_bits-least c = tt

pub returns-then-least-c : goal.returns-then-least-c
unfolding of_bits
returns-then-least-c c = rw c.if-least-c.true

pub returns-else-least-c : goal.returns-else-least-c
unfolding of_bits
returns-else-least-c c = rw c.if-least-c.false
