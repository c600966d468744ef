-- C2, D3. Wrong readers that Demand 3 alone refuses, and the right one, which meets it. Definitions only.
use Rattle.std.specs.Prelude.{false, pos, negsuc, ◌+ℤ◌, ◌-ℤ◌, Float}
use Rattle.std.specs.Float.{fin, binary64}
use Rattle.std.specs.Float.Ieee.{add, sub, mul, neg}
use Rattle.ring.specs.Taps.{tap_of}
use Rattle.integer_part.specs.Parts.{floor_of, fraction_of}
use Rattle.cubic_farrow.specs.Cubic.{one, two, c0, c1, c2, c3, cubic_at}
use Rattle.variable_delay.specs.Reader.{Reading}

-- A reading that always gives the same number.
abbrev pub constant : Float → Reading
constant k xs count p = k

-- A reading that is one sample late.
abbrev pub late : Reading
late xs count p = cubic_at xs count (sub binary64 p one)

-- A cubic reading with other weights.
abbrev pub weighed_by : (Float → Float) → (Float → Float) → (Float → Float) → (Float → Float) → Reading
weighed_by k0 k1 k2 k3 xs count p =
    let i = floor_of p in
    let mu = fraction_of p in
    add binary64
    (add binary64
    (add binary64 (mul binary64 (tap_of xs count (i -ℤ pos 1)) (k0 mu)) (mul binary64 (tap_of xs count i) (k1 mu)))
    (mul binary64 (tap_of xs count (i +ℤ pos 1)) (k2 mu)))
    (mul binary64 (tap_of xs count (i +ℤ pos 2)) (k3 mu))

-- A reading with the first two weights exchanged.
abbrev pub exchanged : Reading
exchanged = weighed_by (c1 binary64) (c0 binary64) (c2 binary64) (c3 binary64)

-- A reading whose division by 6 is a product with the f32 nearest to a sixth.
abbrev pub sixth : Float
sixth = fin false 11184811 (negsuc 25)

abbrev pub rounded_sixth : Reading
rounded_sixth =
    weighed_by
    (λ mu. mul binary64 (mul binary64 (mul binary64 (neg mu) (sub binary64 mu one)) (sub binary64 mu two)) sixth)
    (c1 binary64) (c2 binary64)
    (λ mu. mul binary64 (mul binary64 (mul binary64 (add binary64 mu one) mu) (sub binary64 mu one)) sixth)

-- The reading of 000, which meets Demand 3.
abbrev pub reading : Reading
reading = cubic_at
