-- W11, N1. A kernel by its number: 0 to 3 in the original's order, Lagrange with its taps, the windowed sinc with its
-- taps and phases. A number above 3 names none; it stands for a Lagrange kernel of no taps, which is out of range, so
-- that a call is refused by 1. And the three numbers of a reader's state that a call changes. Definitions only.
use Rattle.std.specs.Prelude.{ℕ, zero, suc, Float}
use Rattle.kernels.specs.declared.Kernel.{Kernel}
use Rattle.kernels.specs.declared.Kernel.TheVariants.{Cubic, Lagrange, Farrow8, Sinc}
use Rattle.oversampled_codes.specs.declared.Numbers.{Numbers}

abbrev pub kernel_of : ℕ → ℕ → ℕ → Kernel
kernel_of zero taps phases = Cubic
kernel_of (suc zero) taps phases = Lagrange taps
kernel_of (suc (suc zero)) taps phases = Farrow8
kernel_of (suc (suc (suc zero))) taps phases = Sinc taps phases
kernel_of (suc (suc (suc (suc k)))) taps phases = Lagrange 0

abbrev pub numbers : ℕ → ℕ → Float → Numbers
numbers accepted inner previous = record { accepted = accepted; inner = inner; previous = previous }
