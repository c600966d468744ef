-- The rates of the sets, bounded in steps of 2^-40. If k steps reach max - 1 and j steps reach k * i / n, the rate of
-- set i is at most 1 plus j steps, whatever is rounded on the way. Assumes nothing.
use Rattle.std.proofs.Common.{
  ◌≡◌,
  ℕ,
  ◌+◌,
  ◌-◌,
  ◌*◌,
  ◌≤◌,
  true,
  T,
  pos,
  refl,
  le_trans,
  le_refl,
  add-mul,
  mul-le-mul,
  le_of_mul-le-mul_right,
  arith,
  lit≤,
}
use lib.Ieee.{Float, binary64, add, sub, mul, div, le}
use lib.Ieee.Positive.{den, den_pos}
use lib.Ieee.Scale.{finite}
use Rattle.magnitude.proofs.WholeFloats.{whole-value}
use Rattle.interval.proofs.Signed.{gain, loss, Ordered, bound, le-le}
use Rattle.interval.proofs.Between.{between, point}
use Rattle.interval.proofs.Products.{rises}
use Rattle.interval.proofs.MonotoneOperations.{sum-grows, product-grows, quotient-grows}
use Rattle.sinc_settings.specs.Ranges.{one-f}
use Rattle.bank_choice.specs.Rates.{num, bank_ok, steps_of, rate_of}
use Rattle.bank_choice.proofs.SetCounts.{in-range, span, most}
use Rattle.bank_choice.proofs.RatesGrow.{number, sets, many, product, share, itself, exact, rate-finite}
use Rattle.bank_choice.proofs.CoarseSteps.{unit, Value, coarse, value_of, exactly, difference-under}
use Rattle.bank_choice.proofs.CoarseSteps.{product-under, quotient-under, sum-under}
use Rattle.bank_choice.proofs.StepArithmetic.{steps_above, next}

-- 2^40 (max - 1), times the denominator of max.
abbrev pub span_of : Float → ℕ
span_of top = unit * (gain top - den top)

-- As many steps as reach max - 1.
abbrev pub reach_of : Float → ℕ
reach_of top = steps_above (span_of top) (den top)

module _ (top : Float) (ok : bank_ok top ≡ true) where
  pub plain_top : loss top ≡ 0
  plain_top = rises (in-range top ok).above refl

  pub finite-top : T (finite top)
  finite-top = (in-range top ok).above.second

  pub above : den top ≤ gain top
  above = omega (arith, bound (in-range top ok).above, plain_top)

  pub below : gain top ≤ 2 * den top
  below = omega (arith, bound (in-range top ok).below, plain_top)

  abbrev k : ℕ
  k = reach_of top

  pub by-k : (span_of top ≤ k * den top) × (k * den top ≤ span_of top + den top)
  by-k = next (span_of top) (den top) (den_pos top)

  pub k-small : k ≤ 1099511627777
  k-small = le_of_mul-le-mul_right (omega (arith, by-k.1, below)) (den_pos top)

  pub k-close : (unit + k) * den top ≤ unit * gain top + den top
  k-close = omega (arith, add-mul unit k (den top), by-k.1, above)

  -- ---- what is computed, and what bounds it: j steps for set i, where j is at least k * i / n
  module _ (i j : ℕ) (l : i ≤ 50) (small : j ≤ 1099511627777) (share-of : k * i ≤ j * steps_of top) where
    abbrev D : Float
    D = sub binary64 top one-f

    abbrev N : Float
    N = num (steps_of top)

    share-small : k * i ≤ 1099511627777 * 50
    share-small = mul-le-mul k-small l

    K : Value (coarse k) k unit
    K = exactly k (omega (arith, k-small))

    S : Value (coarse (k * i)) (k * i) unit
    S = exactly (k * i) (omega (arith, share-small))

    J : Value (coarse j) j unit
    J = exactly j (omega arith)

    difference : Ordered D (coarse k)
    difference =
        record {
          first = (span top ok).above.second;
          second = K.number;
          order = difference-under top k finite-top (omega (arith, add-mul unit k (den top), by-k.0, above));
        }

    squeeze : (a b c : Float) → T (finite a) → T (finite c) → T (le a b) → T (le b c) → Ordered a c
    squeeze a b c p q h g =
        record { first = p; second = q; order = le-le a b c p (between p q h g).above.second q h g }

    products : Ordered (mul binary64 D (num i)) (coarse (k * i))
    products =
        squeeze (mul binary64 D (num i)) (mul binary64 (coarse k) (num i)) (coarse (k * i))
        (product top ok i l).above.second S.number
        (product-grows binary64 difference (itself top ok (number top ok i l)) (rises (span top ok).above refl)
        K.plain (rises (number top ok i l).above refl))
        (product-under k i (coarse k) (num i) K
        (value_of (num i) i 1 (whole-value binary64 (pos i) (le_trans l (lit≤ tt)))))

    shares : Ordered (div binary64 (mul binary64 D (num i)) N) (coarse j)
    shares =
        let n = rises (sets top ok).above refl in
        squeeze (div binary64 (mul binary64 D (num i)) N) (div binary64 (coarse (k * i)) N) (coarse j)
        (share top ok i l).above.second J.number
        (quotient-grows binary64 products (itself top ok (sets top ok)) (rises (product top ok i l).above refl)
        S.plain n n (many top ok) (many top ok))
        (quotient-under (k * i) (steps_of top) j (coarse (k * i)) N S (value_of N (steps_of top) 1 (exact top ok))
        (many top ok) share-of)

    pub rate-under : Ordered (rate_of top (steps_of top) i) (coarse (unit + j))
    unfolding rate_of
    rate-under =
        squeeze (rate_of top (steps_of top) i) (add binary64 one-f (coarse j)) (coarse (unit + j))
        (rate-finite top ok i l).above.second
        (exactly (unit + j) (omega arith)).number (sum-grows binary64 (point one-f tt).above shares)
        (sum-under j (coarse j) J)

  -- ---- the last set: no more than k steps
  pub last_under : Ordered (rate_of top (steps_of top) (steps_of top)) (coarse (unit + k))
  last_under = rate-under (steps_of top) k (most top ok) k-small (le_refl _)
