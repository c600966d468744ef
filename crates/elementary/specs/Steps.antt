-- The constants of the reduction, and what its private functions promise one another. Definitions only.
use Rattle.std.specs.Prelude.{◌≡◌, true, false, ℕ, ◌≤◌, negsuc, T, Float}
use Rattle.std.specs.Float.{fin, binary64}
use Rattle.rounding_error.specs.Fraction.{Frac, frac, plus, times, opp, Within}
use Rattle.rounding_error.specs.Value.{val, Is, nearest_to}
use Rattle.elementary.specs.Reduction.{H, turns, remainder, reduced, fourth}
use Rattle.polynomials.specs.Range.{at_most}

-- The f64 next to 1 / H.
abbrev pub inverse : Float
inverse = fin false 5734161139222659 (negsuc 52)

-- H in two parts of 25 and 24 digits, so that k times either is exact.
abbrev pub high_part : Float
high_part = fin false 26353589 (negsuc 23)

abbrev pub low_part : Float
low_part = fin false 8947107 (negsuc 48)

-- An eighth of a turn, H / 2, and -H / 2.
abbrev pub eighth : Float
eighth = fin false 884279719003555 (negsuc 49)

abbrev pub eighth_back : Float
eighth_back = fin true 884279719003555 (negsuc 49)

-- |x - (j - 256) * H| ≤ 8 / 10, so j - 256 is k or a neighbour of k.
pub record Guess (x : Float) (j : ℕ) : Type 0 where
  pub low : 1 ≤ j
  pub high : j ≤ 511
  pub near : Within 10 8 (val x) (times (frac j 256 1) H)

-- The exact rest x - (j - 256) * H.
abbrev pub left : Float → ℕ → Frac
left x j = plus (val x) (opp (times (frac j 256 1) H))

-- r is exactly that rest, and so also that rest rounded once.
pub record Rest (x : Float) (j : ℕ) (r : Float) : Type 0 where
  pub is : Is r (left x j)
  pub once : r ≡ nearest_to binary64 (left x j)

-- q is k modulo 4, and r is x - k * H, which is exact and at most 1 in size.
pub record Settled (x : Float) (q : ℕ) (r : Float) : Type 0 where
  pub quarter : q ≡ fourth (turns x)
  pub rest : r ≡ reduced x
  pub exact : Is (reduced x) (remainder x)
  pub small : T (at_most 1 (reduced x))
