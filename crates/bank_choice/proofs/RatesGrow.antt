-- The rates of the sets grow with their numbers and lie from 1 to 2: each step of computing a rate keeps the order, and
-- for the last set (max - 1) * n / n is at most 1. Assumes nothing.
use Rattle.std.proofs.Common.{
  ◌≡◌,
  ℕ,
  ◌+◌,
  ◌<◌,
  ◌≤◌,
  true,
  false,
  T,
  pos,
  refl,
  zero-le,
  le_trans,
  mul-le-mul_right,
  one-mul,
  arith,
  lit<,
  lit≤,
}
use lib.Ieee.{Float, fin, binary64, add, sub, mul, div, le, lt, of_int}
use lib.Ieee.Bits.{is_true}
use lib.Ieee.Exact.{HasValue}
use lib.Ieee.Fits.{and_i}
use lib.Ieee.Order.{round_mono}
use denote.Floats.{passes}
use Rattle.magnitude.proofs.WholeFloats.{whole-value, whole-quotient}
use Rattle.interval.proofs.Signed.{Ordered, gain, le-le}
use Rattle.interval.proofs.Between.{Between, point, whole-between, sum-between}
use Rattle.interval.proofs.Products.{rises, rises-above, product-between, quotient-between}
use Rattle.interval.proofs.MonotoneOperations.{sum-grows, product-grows, quotient-grows}
use Rattle.sinc_settings.specs.Ranges.{zero-f, one-f, two-f}
use Rattle.bank_choice.specs.Rates.{num, bank_ok, steps_of, rate_of}
use Rattle.bank_choice.specs.Choosing.{slower_of}
use Rattle.bank_choice.proofs.GapFloats.{one-times, le-lt-any}
use Rattle.bank_choice.proofs.SetCounts.{span, least, most}

abbrev fifty : Float
fifty = fin false 25 (pos 1)

module _ (top : Float) (ok : bank_ok top ≡ true) where
  abbrev D : Float
  D = sub binary64 top one-f

  abbrev N : Float
  N = num (steps_of top)

  pub number : (i : ℕ) → i ≤ 50 → Between zero-f fifty (num i)
  unfolding of_int
  number i l = whole-between binary64 {k = 0} {n = i} {m = 50} zero-le l refl refl tt tt

  pub sets : Between one-f fifty N
  unfolding of_int
  sets = whole-between binary64 {k = 1} {m = 50} (least top) (most top ok) refl refl tt tt

  pub many : 0 < gain N
  many = rises-above sets.above refl (lit< tt)

  -- The numerator, the quotient and the rate of set i, for i up to 50.
  pub product : (i : ℕ) → i ≤ 50 → Between zero-f fifty (mul binary64 D (num i))
  unfolding mul le
  product i l = product-between binary64 tt (span top ok) (number i l) refl refl tt tt

  pub share : (i : ℕ) → i ≤ 50 → Between zero-f fifty (div binary64 (mul binary64 D (num i)) N)
  unfolding div le lt
  share i l = quotient-between binary64 tt (product i l) sets tt refl refl tt tt

  pub rate-finite : (i : ℕ) → i ≤ 50 → Between one-f (fin false 51 (pos 0)) (rate_of top (steps_of top) i)
  unfolding rate_of add
  rate-finite i l = sum-between binary64 (point one-f tt) (share i l) refl refl tt tt

  up-to : {a b x y : Float} → Between a b x → Between a b y → T (le x y) → Ordered x y
  up-to u v h = record { first = u.above.second; second = v.above.second; order = h }

  pub itself : {a b x : Float} → Between a b x → Ordered x x
  itself {a} {b} {x} u = (point x u.above.second).above

  -- ---- a later set's rate is no lower
  module _ (i j : ℕ) (later : i ≤ j) (l : j ≤ 50) where
    numbers : Ordered (num i) (num j)
    unfolding of_int
    numbers =
        up-to (number i (le_trans later l)) (number j l)
        (round_mono binary64 i 1 j 1 (lit< tt) (lit< tt) (mul-le-mul_right 1 later))

    products : Ordered (mul binary64 D (num i)) (mul binary64 D (num j))
    products =
        up-to (product i (le_trans later l)) (product j l)
        (product-grows binary64 (itself (span top ok)) numbers (rises (span top ok).above refl)
        (rises (span top ok).above refl) (rises (number j l).above refl))

    shares : Ordered (div binary64 (mul binary64 D (num i)) N) (div binary64 (mul binary64 D (num j)) N)
    shares =
        up-to (share i (le_trans later l)) (share j l)
        (quotient-grows binary64 products (itself sets) (rises (product i (le_trans later l)).above refl)
        (rises (product j l).above refl) (rises sets.above refl) (rises sets.above refl) many many)

    pub rate-grows : Ordered (rate_of top (steps_of top) i) (rate_of top (steps_of top) j)
    unfolding rate_of
    rate-grows =
        up-to (rate-finite i (le_trans later l)) (rate-finite j l) (sum-grows binary64 (point one-f tt).above shares)

  -- ---- the last set's rate is at most 2
  pub exact : HasValue N false (steps_of top) 1
  exact = whole-value binary64 (pos (steps_of top)) (le_trans (most top ok) (lit≤ tt))

  last-product : Ordered (mul binary64 D N) N
  last-product =
      up-to (product (steps_of top) (most top ok)) (number (steps_of top) (most top ok))
      (rw (one-times binary64 N (steps_of top) exact) at
      (product-grows binary64 (span top ok).below (itself sets) (rises (span top ok).above refl) refl
      (rises sets.above refl)))

  last-share : T (le (div binary64 (mul binary64 D N) N) one-f)
  unfolding of_int
  last-share =
      rw (whole-quotient binary64 N N 1 (steps_of top) (least top) (rw (one-mul (steps_of top)) exact) exact) at
      (quotient-grows binary64 last-product (itself sets) (rises (product (steps_of top) (most top ok)).above refl)
      (rises sets.above refl) (rises sets.above refl) (rises sets.above refl) many many)

  last-rate : T (le (rate_of top (steps_of top) (steps_of top)) two-f)
  unfolding rate_of add
  last-rate =
      sum-grows binary64 (point one-f tt).above
      (record { first = (share (steps_of top) (most top ok)).above.second; second = tt; order = last-share })

  -- ---- so a set can always be built, and the sets before a slower one are slower
  pub set-in-range : (i : ℕ) → i ≤ steps_of top → bank_ok (rate_of top (steps_of top) i) ≡ true
  set-in-range i l =
      let r = rate_of top (steps_of top) i in
      let g = rate-grows i (steps_of top) l (most top ok) in
      is_true _ (and_i (le one-f r) (le r two-f) (rate-finite i (le_trans l (most top ok))).above.order
      (le-le r _ two-f g.first g.second tt g.order last-rate))

  pub slower-before : (r : Float) (j k : ℕ) → j ≤ k → k < steps_of top → slower_of top (steps_of top) r k ≡ true
      → slower_of top (steps_of top) r j ≡ true
  slower-before r j k l h e =
      let g = rate-grows (j + 1) (k + 1) (omega arith) (omega (arith, most top ok)) in
      is_true _ (le-lt-any _ _ r g.first g.second g.order (passes _ e))
