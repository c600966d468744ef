-- T4. The blend at the maximum of a bank of two sets or more. The rate of the last set lies at most a step of 2^-40
-- above the maximum, and the rate of the set below lies at least 2^28 steps below it, so the blend is 1 or so near to 1
-- that it counts as 1. Assumes nothing.
use Rattle.std.proofs.Common.{
  ◌≡◌,
  ℕ,
  ◌+◌,
  ◌-◌,
  ◌*◌,
  ◌/◌,
  ◌<◌,
  ◌≤◌,
  true,
  false,
  T,
  pos,
  refl,
  add-mul,
  mul-pos,
  one-mul,
  arith,
}
use lib.Ieee.{Float, fin, binary64, sub, div, lt, le}
use lib.Ieee.Positive.{den, den_pos}
use Rattle.magnitude.proofs.Comparisons.{lt→le}
use Rattle.interval.proofs.Signed.{gain, Ordered, strictly}
use Rattle.interval.proofs.Between.{Between, difference-between}
use Rattle.interval.proofs.Products.{rises}
use Rattle.integer_part.proofs.Floors.{quotient-around}
use Rattle.sinc_settings.specs.Ranges.{zero-f, one-f}
use Rattle.bank_choice.specs.Rates.{bank_ok, steps_of, rate_of}
use Rattle.bank_choice.specs.Choosing.{blend_of}
use Rattle.bank_choice.proofs.SetCounts.{in-range, most}
use Rattle.bank_choice.proofs.RatesGrow.{rate-finite}
use Rattle.bank_choice.proofs.CoarseSteps.{unit, coarse, exactly, difference-over, difference-within, counted}
use Rattle.bank_choice.proofs.CoarseSteps.{counted-below}
use Rattle.bank_choice.proofs.StepArithmetic.{from-below, from-above, far, near, ordered}
use Rattle.bank_choice.proofs.RatesInSteps.{reach_of, plain_top, finite-top, below, k-small, k-close, last_under}
use Rattle.bank_choice.proofs.NotLast.{share_of, j-small, j-close, set-under}
use Rattle.bank_choice.proofs.NearOne.{high, narrow_high, quotient-high}

module _ (top : Float) (ok : bank_ok top ≡ true) (more : 1 < steps_of top) where
  abbrev n : ℕ
  n = steps_of top

  abbrev own : Float
  own = rate_of top n n

  abbrev low : Float
  low = rate_of top n (n - 1)

  one_less : n - 1 < n
  one_less = omega arith

  some : 0 < n - 1
  some = omega arith

  own_in : Between one-f (fin false 51 (pos 0)) own
  own_in = rate-finite top ok n (most top ok)

  low-in : Between one-f (fin false 51 (pos 0)) low
  low-in = rate-finite top ok (n - 1) (omega (arith, most top ok))

  -- ---- how many steps lie between the rate of the set below and the maximum
  abbrev J : ℕ
  J = share_of top (n - 1)

  low-steps : gain low * unit ≤ (unit + J) * den low
  low-steps =
      counted (unit + J) low (omega (arith, j-small top ok (n - 1) some one_less)) (rises low-in.above refl)
      (set-under top ok (n - 1) some one_less)

  own-steps : gain own * unit ≤ (unit + reach_of top) * den own
  own-steps =
      counted (unit + reach_of top) own (omega (arith, k-small top ok)) (rises own_in.above refl) (last_under top ok)

  abbrev Y : ℕ
  Y = gain top * den low - gain low * den top

  gap : Y + gain low * den top ≡ gain top * den low
  gap =
      omega (
        arith,
        ordered (gain top) (den top) (gain low) (den low) J low-steps (j-close top ok (n - 1) some one_less),
      )

  part : 0 < den top * den low
  part = mul-pos (den_pos top) (den_pos low)

  abbrev a : ℕ
  a = unit * Y / (den top * den low)

  fits : a * (den top * den low) ≤ unit * Y
  fits = (quotient-around (unit * Y) (den top * den low) part).0

  no_more : unit * Y ≤ (a + 1) * (den top * den low)
  no_more =
      omega (
        arith,
        (quotient-around (unit * Y) (den top * den low) part).1,
        add-mul a 1 (den top * den low),
        one-mul (den top * den low),
      )

  large : 268435456 ≤ a + 1
  large =
      far (gain top) (den top) (gain low) (den low) Y a gap fits no_more J part low-steps
      (j-close top ok (n - 1) some one_less)

  small : a ≤ 2199023255552
  small = near (gain top) (den top) (gain low) (den low) Y a gap fits no_more part (below top ok)

  -- ---- the two differences
  over-in : Between (fin true 25 (pos 1)) one-f (sub binary64 top low)
  unfolding sub
  over-in = difference-between binary64 (in-range top ok) low-in refl refl tt tt

  gap-in : Between (fin true 25 (pos 1)) (fin false 25 (pos 1)) (sub binary64 own low)
  unfolding sub
  gap-in = difference-between binary64 own_in low-in refl refl tt tt

  over : Ordered (coarse a) (sub binary64 top low)
  over = record {
    first = (exactly a (omega (arith, small))).number;
    second = over-in.above.second;
    order =
        difference-over top low (finite-top top ok) low-in.above.second (plain_top top ok)
        (rises low-in.above refl) a
        (from-below (gain top) (den top) (gain low) (den low) Y a gap fits no_more);
  }

  within : Ordered (sub binary64 own low) (coarse (a + 2))
  within = record {
    first = gap-in.above.second;
    second = (exactly (a + 2) (omega (arith, small))).number;
    order =
        difference-within own low own_in.above.second low-in.above.second (rises own_in.above refl)
        (rises low-in.above refl) (a + 2)
        (from-above (gain top) (den top) (gain low) (den low) Y a gap fits no_more (gain own) (den own) (reach_of top)
        (den_pos top) own-steps (k-close top ok));
  }

  pub nearly-one : T (lt zero-f (sub binary64 own low)) → T (le high (blend_of top own low))
  unfolding blend_of
  nearly-one h =
      let x = sub binary64 top low in
      let y = sub binary64 own low in
      let p = rises over (exactly a (omega (arith, small))).plain in
      let z = rises (record { first = tt; second = within.first; order = lt→le zero-f y h }) refl in
      narrow_high (div binary64 x y)
      (quotient-high a x y over.second within.first p
      (omega (arith, strictly zero-f y tt within.first h)) large
      (counted-below a x (omega (arith, small)) p over) (counted (a + 2) y (omega (arith, small)) z within))
