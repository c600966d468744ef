-- The two spellings of each number are one float. It is computed. Assumes nothing.
use mathlib.Core.Path.{◌≡◌, refl}
use lib.Ieee.{of_bits}
use Rattle.constants.specs.Numbers.{zero-f, one-f, two-f, zero_bits, one-bits, two-bits}

pub same : (zero_bits ≡ zero-f) × (one-bits ≡ one-f) × (two-bits ≡ two-f)
unfolding of_bits
same = (refl, refl, refl)
