-- z = -(x * x) for |x| ≤ 1 is at most 1 in size and off by one rounding. Factorials two apart grow at least by 2, so
-- Horner's law holds for z. Assumes nothing.
use mathlib.Core.Path.{◌≡◌}
use mathlib.Core.Bool.{true, false}
use Prim.Native.Nat.{ℕ, suc, ◌+◌, ◌*◌, ◌^◌, ◌≤◌, ◌<◌}
use native.Mathlib.Omega.{arith}
use lib.Dec.{T, leb→le, lit≤, lit<}
use lib.Ieee.{Float, nan, inf, fin, binary64, up, down, neg, mul}
use lib.Ieee.Scale.{finite}
use Rattle.rounding_error.specs.Fraction.{Frac, nil, times, opp, Within, Mag}
use Rattle.rounding_error.specs.Value.{val, Rounds}
use Rattle.rounding_error.proofs.Same.{same_refl}
use Rattle.rounding_error.proofs.Within.{rescale, within-opp}
use Rattle.rounding_error.proofs.ProductErrors.{mag-times}
use Rattle.rounding_error.proofs.Value.{val_pos, is-val, is-near, neg-near}
use Rattle.rounding_error.proofs.OperandErrors.{mul-approx}
use Rattle.polynomials.specs.Taylor.{factorial}
use Rattle.polynomials.specs.Horner.{horner}
use Rattle.polynomials.specs.Range.{at_most}
use Rattle.polynomials.proofs.Nested.{nested}
use Rattle.polynomials.proofs.Horner.{g, cost, last, horner-near, nested-mag}

-- ---- a number of magnitude at most b
pub at-most-finite : (b : ℕ) (x : Float) → T (at_most b x) → T (finite x)
at-most-finite b nan h = h
at-most-finite b (inf s) h = h
at-most-finite b (fin s m e) h = tt

-- |x| is (p + n) / d, since p or n is zero.
pub at_most_size : (b : ℕ) (x : Float) → T (at_most b x) → (val x).p + (val x).n ≤ b * (val x).d
at_most_size b nan h = absurd h
at_most_size b (inf s) h = absurd h
at_most_size b (fin false m e) h = omega (arith, leb→le (m * up e) (b * down e) h)
at_most_size b (fin true m e) h = omega (arith, leb→le (m * up e) (b * down e) h)

pub own-mag : (x : Frac) → 0 < x.d → Within x.d (x.p + x.n) x nil
own-mag x P = omega arith

pub at-most-mag : (b : ℕ) (x : Float) → T (at_most b x) → Mag b (val x)
at-most-mag b x h = rescale (val_pos x) (omega (arith, at_most_size b x h)) (own-mag (val x) (val_pos x))

-- ---- the square
abbrev pub square : Float → Float
square x = neg (mul binary64 x x)

abbrev pub squared : Float → Frac
squared x = opp (times (val x) (val x))

two-on : (n : ℕ) → 2 * factorial n ≤ factorial (2 + n) * 1
unfolding factorial
two-on n = let e : 2 + n ≡ suc (suc n) = omega arith in rw e (omega arith)

module _ (x : Float) (h : T (at_most 1 x)) where
  pub square-mag : Mag 1 (squared x)
  square-mag = within-opp (mag-times (at-most-mag 1 x h) (at-most-mag 1 x h))

  pub square-near : Rounds g 1 (square x) (squared x)
  square-near =
      let i = is-val x (at-most-finite 1 x h) in
      let m = at-most-mag 1 x h in
      let s : Within g g (times (val x) (val x)) nil = rescale (lit< tt) (lit≤ tt) (mag-times m m) in
      neg-near (mul-approx binary64 1 0 0 tt i m (is-near g i) (same_refl s.left) s (lit≤ tt))

  -- Horner's law in z, and how large the exact nested sum is.
  pub in-square : (n k m e : ℕ) → k < m → 2 * g ≤ e * (factorial (2 + last 2 n k) * 1) → e + 11 * k ≤ 2 ^ 48
      → Rounds g (cost 1 (1 + e) k) (horner 2 (square x) n k) (nested 2 (squared x) n m)
  in-square n k m e l t b =
      horner-near 2 1 (lit< tt) two-on (square x) (squared x) square-mag square-near n k m e l (lit≤ tt) t b

  pub in-square-mag : (n k : ℕ) → Within (factorial n) 2 (nested 2 (squared x) n k) nil
  in-square-mag n k = nested-mag 2 1 (lit< tt) two-on (square x) (squared x) square-mag square-near n k
