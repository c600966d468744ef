-- W11, K4. If a kernel's settings, its table's length and the position are in range, what is read is the kernel's own
-- reading, kernel by kernel. Assumes nothing.
use mathlib.Core.Path.{◌≡◌}
use mathlib.Core.Bool.{true}
use mathlib.Core.List.{List}
use Prim.Native.Nat.{ℕ}
use lib.Dec.{eqb}
use lib.ListN.{length}
use lib.Ieee.{Float}
use Rattle.ring.specs.Places.{position_ok}
use Rattle.kernels.specs.Kernels.{kernel_at, read_by, own_ok, table_for}
use Rattle.kernels.specs.declared.Kernel.{Kernel}
use Rattle.kernels.specs.declared.Kernel.TheVariants.{Cubic, Lagrange, Farrow8, Sinc}

pub served : (k : Kernel) (table xs : List Float) (count : ℕ) (p : Float) → own_ok k ≡ true
    → eqb (length table) (table_for k) ≡ true → position_ok p ≡ true
    → read_by k table xs count p ≡ kernel_at k table xs count p
served Cubic table xs count p own lent here = rw here
served (Lagrange taps) table xs count p own lent here = rw (own, here)
served Farrow8 table xs count p own lent here = rw here
served (Sinc taps phases) table xs count p own lent here = rw (own, lent, here)
