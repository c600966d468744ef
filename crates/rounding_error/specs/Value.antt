-- A float's value, and what it means that a float is a number or lies near one. Definitions only.
use Rattle.std.specs.Prelude.{Bool, true, false, cond, ℕ, ◌-◌, ◌*◌, T, ltb, Float}
use Rattle.std.specs.Float.{nan, inf, fin, Format}
use Rattle.std.specs.Float.Ieee.{up, down, round}
use Rattle.std.specs.Float.Ieee.Scale.{finite}
use Rattle.rounding_error.specs.Fraction.{Frac, frac, nil, Same, Within}

-- The fraction a / c, or -a / c if the sign is set.
abbrev pub signed : Bool → ℕ → ℕ → Frac
signed false a c = frac a 0 c
signed true a c = frac 0 a c

-- The value of a finite float. An infinity and a NaN have none; the relations below say that x is finite.
abbrev pub val : Float → Frac
val nan = nil
val (inf s) = nil
val (fin s m e) = signed s (m * up e) (down e)

-- x is finite, and its value is the number q.
pub record Is (x : Float) (q : Frac) : Type 0 where
  pub real : T (finite x)
  pub same : Same (val x) q

-- x is finite, and |x - q| ≤ e / g.
pub record Rounds (g e : ℕ) (x : Float) (q : Frac) : Type 0 where
  pub real : T (finite x)
  pub near : Within g e (val x) q

-- q rounded once: the float nearest to it, a tie to the one whose last digit is even.
unfoldable pub nearest_to : Format → Frac → Float
nearest_to f q = cond (ltb q.p q.n) (round f true (q.n - q.p) q.d) (round f false (q.p - q.n) q.d)
