-- W11, N1, N2. 000's f64 kernels: what each reads, what its settings need, and how many taps a reading has. Definitions
-- only.
use Rattle.std.specs.Prelude.{ℕ, Bool, true, ◌&&◌, List, [], ◌∷◌, eqb, Float}
use Rattle.refusal_order.specs.Order.{◌unless◌, first_of}
use Rattle.cubic_farrow.specs.Cubic as cubic
use Rattle.lagrange.specs.Kernel as lagrange
use Rattle.farrow8.specs.Kernel as eight
use Rattle.sinc_settings.specs.Ranges.{taps_ok, phases_ok}
use Rattle.sinc_settings.specs.Refusals.{table_length}
use Rattle.sinc_read.specs.Reading as sinc
use Rattle.kernels.specs.declared.Kernel.{Kernel}
use Rattle.kernels.specs.declared.Kernel.TheVariants.{Cubic, Lagrange, Farrow8, Sinc}

-- What a kernel reads of a ring, a count and a position, with the table that is lent to it.
abbrev pub kernel_at : Kernel → List Float → List Float → ℕ → Float → Float
kernel_at Cubic table xs count p = cubic.cubic_at xs count p
kernel_at (Lagrange taps) table xs count p = lagrange.lagrange_at taps xs count p
kernel_at Farrow8 table xs count p = eight.farrow_at xs count p
kernel_at (Sinc taps phases) table xs count p = sinc.sinc_at table taps phases xs count p

-- The same, and zero if the kernel's settings, its table's length or the position is out of range.
abbrev pub read_by : Kernel → List Float → List Float → ℕ → Float → Float
read_by Cubic table xs count p = cubic.read_of xs count p
read_by (Lagrange taps) table xs count p = lagrange.read_of taps xs count p
read_by Farrow8 table xs count p = eight.read_of xs count p
read_by (Sinc taps phases) table xs count p = sinc.read_of table taps phases xs count p

-- N1. The kernel's own settings are in range.
abbrev pub own_ok : Kernel → Bool
own_ok Cubic = true
own_ok (Lagrange taps) = lagrange.taps_ok taps
own_ok Farrow8 = true
own_ok (Sinc taps phases) = taps_ok taps && phases_ok phases

-- N2. The length of the table that the settings need. Only the windowed sinc has one.
abbrev pub table_for : Kernel → ℕ
table_for Cubic = 0
table_for (Lagrange taps) = 0
table_for Farrow8 = 0
table_for (Sinc taps phases) = table_length taps phases

-- The refusal for a kernel and a lent table of a length, 0 for none.
abbrev pub kernel_verdict : Kernel → ℕ → ℕ
kernel_verdict k len = first_of (1 unless own_ok k ∷ 2 unless eqb len (table_for k) ∷ [])

-- The taps of one reading.
abbrev pub taps_of : Kernel → ℕ
taps_of Cubic = 4
taps_of (Lagrange taps) = taps
taps_of Farrow8 = 8
taps_of (Sinc taps phases) = taps
