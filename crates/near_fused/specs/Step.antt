-- K4. The fused step by ordinary floats: two ends with the exact sum between them, and the answer where both round
-- alike. Definitions only.
use Rattle.std.specs.Prelude.{Bool, true, false, cond, Float}
use Rattle.std.specs.Float.{nan, binary64}
use Rattle.std.specs.Float.Ieee.{of_bits, add, sub, mul, le, lt}
use Rattle.near_fused.specs.Parts.{high, sized, top}

-- The factor lies from 0 to 1.
abbrev pub inside_of : Float → Bool
inside_of mu = cond (le mu top) (le (of_bits binary64 0) mu) false

-- Neither is a NaN.
abbrev pub ordered_of : Float → Float → Bool
ordered_of x y = cond (le x y) true (lt y x)

-- The product of the upper parts, and the rest of v * mu.
abbrev pub greater : Float → Float → Float
greater v mu = mul binary64 (high v) (high mu)

abbrev pub rest : Float → Float → Float
rest v mu = add binary64 (mul binary64 (high v) (sub binary64 mu (high mu))) (mul binary64 (sub binary64 v (high v)) mu)

-- The rounded sum of p and c, and exactly what that rounding lost (a two-sum).
abbrev pub total : Float → Float → Float
total p c = add binary64 p c

abbrev pub left : Float → Float → Float
left p c =
    add binary64 (sub binary64 p (sub binary64 (total p c) (sub binary64 (total p c) p)))
    (sub binary64 c (sub binary64 (total p c) p))

-- The error bound is 2 ^ -70 of the terms, and 2 ^ -960 for what is too small for that.
abbrev pub part : Float
part = of_bits binary64 0x3b90_0000_0000_0000

abbrev pub least : Float
least = of_bits binary64 0x03f0_0000_0000_0000

abbrev pub margin : Float → Float → Float
margin v c = add binary64 (mul binary64 (add binary64 (sized v) (sized c)) part) least

-- The upper and the lower end, each rounded once.
abbrev pub upper_end : Float → Float → Float → Float
upper_end v mu c =
    add binary64 (total (greater v mu) c) (add binary64 (add binary64 (left (greater v mu) c) (rest v mu)) (margin v c))

abbrev pub lower_end : Float → Float → Float → Float
lower_end v mu c =
    add binary64 (total (greater v mu) c) (sub binary64 (add binary64 (left (greater v mu) c) (rest v mu)) (margin v c))

unfoldable pub near_of : Float → Float → Float → Float
near_of v mu c =
    cond (inside_of mu)
    (cond (ordered_of v c) (cond (le (upper_end v mu c) (lower_end v mu c)) (upper_end v mu c) nan) nan) nan
