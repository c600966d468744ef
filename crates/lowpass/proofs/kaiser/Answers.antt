-- `lowpass::kaiser` meets its contract: the result of each step is the definition's. Assumes nothing.
use lib.Ieee.{of_bits}
use Rattle.lowpass.proofs.kaiser.Goals as goal

pub returns : goal.returns
unfolding of_bits
returns c = rw (c.bessel_i0.ensures, c.square_root-root.ensures, c.max.ensures)
