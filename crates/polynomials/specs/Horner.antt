-- E5. The polynomials in f64, by Horner's rule with the reciprocals 1 / n!, each rounded once. A step is one product
-- and one sum. Definitions only.
use Rattle.std.specs.Prelude.{false, ℕ, zero, suc, ◌+◌, negsuc, Float}
use Rattle.std.specs.Float.{fin, binary64}
use Rattle.std.specs.Float.Ieee.{round, neg, add, mul}
use Rattle.polynomials.specs.Taylor.{factorial}

-- The reciprocal 1 / n!, rounded once.
unfoldable pub reciprocal : ℕ → Float
unfolding factorial
reciprocal n = round binary64 false 1 (factorial n)

-- The sum 1 / n! + z * (1 / (d + n)! + z * (1 / (d + d + n)! + ..)), with k steps.
unfoldable pub horner : ℕ → Float → ℕ → ℕ → Float
unfolding reciprocal
horner d z n zero = reciprocal n
horner d z n (suc k) = add binary64 (reciprocal n) (mul binary64 z (horner d z (d + n) k))

-- The last powers are x ^ 17, x ^ 18 and y ^ 13: what the terms left out would add lies below the last digit.
abbrev pub sine_steps : ℕ
sine_steps = 8

abbrev pub cosine_steps : ℕ
cosine_steps = 9

abbrev pub power_steps : ℕ
power_steps = 13

-- Sine and cosine are polynomials in z = -(x * x).
unfoldable pub sine_near : Float → Float
unfolding horner
sine_near x = mul binary64 x (horner 2 (neg (mul binary64 x x)) 1 sine_steps)

unfoldable pub cosine_near : Float → Float
unfolding horner
cosine_near x = horner 2 (neg (mul binary64 x x)) 0 cosine_steps

-- The f64 nearest to ln 2, with the pattern 3FE62E42FEFA39EF.
abbrev pub ln2 : Float
ln2 = fin false 6243314768165359 (negsuc 52)

-- The power of two is a polynomial in y = ln2 * x.
unfoldable pub power_near : Float → Float
unfolding horner
power_near x = horner 1 (mul binary64 ln2 x) 0 power_steps
