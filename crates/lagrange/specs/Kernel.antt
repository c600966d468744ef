-- K4, K7. 000's Lagrange<TAPS>: its two loops in 000's order, each step rounded. The number of taps is an argument.
-- Definitions only.
use Rattle.std.specs.Prelude.{ℕ, ◌-◌, ◌/◌, ◌%◌, Bool, ◌&&◌, cond, List, eqb, leb, ℤ, pos, ◌+ℤ◌, ◌-ℤ◌}
use Rattle.std.specs.Prelude.{Float}
use Rattle.std.specs.Float.{binary64}
use Rattle.std.specs.Float.Ieee.{add, sub, mul, of_int}
pub use Rattle.constants.specs.Numbers.{zero-f}
use Rattle.loop_laws.specs.Loops.{fold}
use Rattle.lagrange_factors.specs.Weight.{weight, floats}
use Rattle.ring.specs.Taps.{tap_of}
use Rattle.ring.specs.Places.{position_ok}
use Rattle.integer_part.specs.Parts.{floor_of}

-- G5. The taps are even and from 2 to 16.
abbrev pub taps_ok : ℕ → Bool
taps_ok taps = leb taps 16 && leb 2 taps && eqb (taps % 2) 0

abbrev pub num : ℕ → Float
num n = of_int binary64 (pos n)

-- The weight by the inner loop in floats. In fractions the same loop is Lagrange's formula (`formula` in
-- lagrange_factors/proofs/Nodes.antt).
abbrev pub weight_of : ℕ → Float → ℕ → Float
weight_of taps local k = weight floats local k taps

-- In 000: `sum += source.at(base + k) * weight`.
abbrev pub turn_of : List Float → ℕ → ℤ → Float → ℕ → ℕ → Float → Float
turn_of xs count base local taps k sum =
    add binary64 sum (mul binary64 (tap_of xs count (base +ℤ pos k)) (weight_of taps local k))

-- The first tap stands taps / 2 - 1 before the integer part; `local` is the position counted from there.
abbrev pub base_of : Float → ℕ → ℤ
base_of p taps = floor_of p -ℤ pos (taps / 2 - 1)

unfoldable pub lagrange_at : ℕ → List Float → ℕ → Float → Float
unfolding fold weight
lagrange_at taps xs count p =
    let base = base_of p taps in
    fold (turn_of xs count base (sub binary64 p (of_int binary64 base)) taps) zero-f taps

abbrev pub read_of : ℕ → List Float → ℕ → Float → Float
read_of taps xs count p = cond (taps_ok taps && position_ok p) (lagrange_at taps xs count p) zero-f
