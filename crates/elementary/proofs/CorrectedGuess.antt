-- E2. If the guess is one off, the rest lies at H / 2 or beyond, or below -H / 2. With one turn more or less it lies
-- from -H / 2 to H / 2 and is a guess too. Otherwise the guess is right. Assumes nothing.
use mathlib.Core.Path.{◌≡◌}
use mathlib.Core.Bool.{true, false}
use Prim.Native.Nat.{ℕ, ◌+◌, ◌*◌, ◌^◌, ◌≤◌, ◌<◌}
use native.Mathlib.Nat.{le_of_mul-le-mul_right, lt_of_mul-lt-mul_right, mul-le-mul_right, mul-lt-mul_of_pos_right}
use native.Mathlib.Nat.{mul-pos}
use native.Mathlib.Omega.{arith}
use lib.Dec.{T, lit<}
use lib.Ieee.{Float, lt}
use Rattle.rounding_error.specs.Value.{val}
use Rattle.rounding_error.proofs.Value.{val_pos}
use Rattle.rounding_error.proofs.Compare.{is_below, not-below}
use Rattle.elementary.specs.Reduction.{H}
use Rattle.polynomials.specs.Range.{at_most}
use Rattle.elementary.specs.Steps.{eighth, eighth_back, Guess, left, Rest}
use Rattle.elementary.proofs.GuessFromQuotient.{guess-of}
use Rattle.elementary.proofs.QuarterTurns.{Halves, left_p, left_n}

-- ---- the guess is right
pub stands : {x r : Float} {j : ℕ} → Rest x j r → lt r eighth ≡ true → lt r eighth_back ≡ false → Halves (left x j)
stands w t s =
    record {
      low = omega (arith, not-below eighth_back tt w.is s);
      high = omega (arith, is_below eighth tt w.is t);
    }

-- ---- one more or one less
pub record Moved (x : Float) (i : ℕ) : Type 0 where
  pub guess : Guess x i
  pub halves : Halves (left x i)

-- What holds for i in place of j.
record Fine (xp xn xd i h t : ℕ) : Type 0 where
  above : 10 * (xp * (1 * t) + (i * 0 + 256 * h) * xd)
      ≤ 10 * ((i * h + 256 * 0) * xd + xn * (1 * t)) + 8 * (xd * (1 * t))
  below : 10 * ((i * h + 256 * 0) * xd + xn * (1 * t)) ≤ 10 * (xp * (1 * t) + (i * 0 + 256 * h) * xd) + 8 * (1 * t * xd)
  low : left_n xn xd i h t * (t * 2) ≤ left_p xp xd i h t * (t * 2) + h * (xd * (1 * t))
  high : left_p xp xd i h t * (t * 2) < left_n xn xd i h t * (t * 2) + h * (xd * (1 * t))

more-core : (xp xn xd j h t : ℕ) → 0 < t → 0 < xd * h → 505 * (xd * h) ≤ 800 * (xd * t) → 3 * (xd * t) ≤ 2 * (xd * h)
    → 10 * (xp * (1 * t) + (j * 0 + 256 * h) * xd) ≤ 10 * ((j * h + 256 * 0) * xd + xn * (1 * t)) + 8 * (xd * (1 * t))
    → h * (xd * (1 * t)) + left_n xn xd j h t * (t * 2) ≤ left_p xp xd j h t * (t * 2)
    → Fine xp xn xd (j + 1) h t
more-core xp xn xd j h t P Z f k g w =
    let a : xd * h + 2 * left_n xn xd j h t ≤ 2 * left_p xp xd j h t =
    le_of_mul-le-mul_right {k = t} (omega (arith, w)) P in
    let b : 2 * left_p xp xd j h t < 2 * left_n xn xd j h t + 3 * (xd * h) = omega (arith, g, k, Z) in
    let a' = mul-le-mul_right t a in
    let b' = mul-lt-mul_of_pos_right b P in
    record { above = omega (arith, g); below = omega (arith, a, f); low = omega (arith, a'); high = omega (arith, b') }

less-core : (xp xn xd i h t : ℕ) → 0 < t → 0 < xd * h → 505 * (xd * h) ≤ 800 * (xd * t) → 3 * (xd * t) ≤ 2 * (xd * h)
    → 10 * (((i + 1) * h + 256 * 0) * xd + xn * (1 * t))
    ≤ 10 * (xp * (1 * t) + ((i + 1) * 0 + 256 * h) * xd) + 8 * (1 * t * xd)
    → left_p xp xd (i + 1) h t * (t * 2) + h * (xd * (1 * t)) < left_n xn xd (i + 1) h t * (t * 2)
    → Fine xp xn xd i h t
less-core xp xn xd i h t P Z f k g w =
    let a : xd * h + 2 * left_p xp xd i h t < 2 * (left_n xn xd i h t + xd * h) =
    lt_of_mul-lt-mul_right t (omega (arith, w)) in
    let b : 2 * (left_n xn xd i h t + xd * h) ≤ 2 * left_p xp xd i h t + 3 * (xd * h) = omega (arith, g, k, Z) in
    let a' = mul-lt-mul_of_pos_right a P in
    let b' = mul-le-mul_right t b in
    record { above = omega (arith, a, f); below = omega (arith, g); low = omega (arith, b'); high = omega (arith, a') }

module _ (x : Float) (b : T (at_most 256 x)) where
  moved : (i : ℕ) → Fine (val x).p (val x).n (val x).d i H.p H.d → Moved x i
  moved i w =
      record {
        guess =
            guess-of i x b (record { left = val_pos x; right = lit< tt; above = w.above; below = w.below });
        halves = record { low = w.low; high = w.high };
      }

  -- The numbers in which H occurs.
  unit : 0 < (val x).d * 884279719003555
  unit = mul-pos (val_pos x) (lit< tt)

  most : 505 * ((val x).d * 884279719003555) ≤ 800 * ((val x).d * 2 ^ 49)
  most = omega arith

  least : 3 * ((val x).d * 2 ^ 49) ≤ 2 * ((val x).d * 884279719003555)
  least = omega arith

  pub one_more : {r : Float} (j : ℕ) → Guess x j → Rest x j r → lt r eighth ≡ false → Moved x (j + 1)
  one_more j g w t =
      moved (j + 1)
      (more-core (val x).p (val x).n (val x).d j H.p H.d (lit< tt) unit most least g.near.above
      (omega (arith, not-below eighth tt w.is t)))

  pub one_less : {r : Float} (i : ℕ) → Guess x (i + 1) → Rest x (i + 1) r → lt r eighth_back ≡ true → Moved x i
  one_less i g w t =
      moved i (less-core (val x).p (val x).n (val x).d i H.p H.d (lit< tt) unit most least g.near.below
      (omega (arith, is_below eighth_back tt w.is t)))
