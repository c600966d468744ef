-- E2. The reduction beyond 1 in magnitude: k, the floor of x / H + 1/2; x - k * H, rounded once; and the function and
-- the sign that k modulo 4 picks. Definitions only.
use Rattle.std.specs.Prelude.{cond, ℕ, zero, suc, ◌-◌, ◌+◌, ◌/◌, ◌%◌, ◌^◌, ℤ, pos, negsuc, neg_ℤ, leb, Float}
use Rattle.std.specs.Float.{binary64}
use Rattle.std.specs.Float.Ieee.{neg}
use Rattle.rounding_error.specs.Fraction.{Frac, frac, plus, times, opp, over, whole}
use Rattle.rounding_error.specs.Value.{val, nearest_to}
use Rattle.polynomials.specs.Horner.{sine_near, cosine_near}

-- A quarter turn: the value of the f64 with the pattern 3FF921FB54442D18, next to half of pi.
abbrev pub H : Frac
H = frac 884279719003555 0 (2 ^ 49)

-- The greatest whole number that is at most (p - n) / d.
unfoldable pub floor_of : Frac → ℤ
floor_of q = cond (leb q.n q.p) (pos ((q.p - q.n) / q.d)) (neg_ℤ (pos ((q.n - q.p + (q.d - 1)) / q.d)))

-- The number k of quarter turns, by the exact quotient.
unfoldable pub turns : Float → ℤ
unfolding floor_of
turns x = floor_of (plus (over (val x) H.p H.d) (frac 1 0 2))

-- The exact rest x - k * H.
unfoldable pub remainder : Float → Frac
unfolding turns
remainder x = plus (val x) (opp (times (whole (turns x) 1) H))

unfoldable pub reduced : Float → Float
unfolding nearest_to remainder
reduced x = nearest_to binary64 (remainder x)

-- k modulo 4.
unfoldable pub fourth : ℤ → ℕ
fourth (pos k) = k % 4
fourth (negsuc k) = 3 - k % 4

-- The sine of r plus q quarter turns.
unfoldable pub pick : ℕ → Float → Float
unfolding sine_near cosine_near
pick zero r = sine_near r
pick (suc zero) r = cosine_near r
pick (suc (suc zero)) r = neg (sine_near r)
pick (suc (suc (suc q))) r = neg (cosine_near r)
