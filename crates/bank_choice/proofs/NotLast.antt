-- The rate of a set that is not the last is below the bank's. (max - 1) * i / n with i < n falls short of max - 1 by at
-- least a fiftieth of it, and more than one set means that max - 1 is above 1/64, so at least 2^28 steps of 2^-40 lie
-- between the rate of the set and that of the bank. Assumes nothing.
use Rattle.std.proofs.Common.{
  ◌≡◌,
  ℕ,
  ◌+◌,
  ◌-◌,
  ◌*◌,
  ◌<◌,
  ◌≤◌,
  true,
  T,
  refl,
  add-mul,
  lt_of_not-le,
  le_of_mul-le-mul_right,
  arith,
  lit≤,
}
use native.Mathlib.Nat.{max-le}
use lib.Ieee.{Float, binary64, round, sub, div, le, lt}
use lib.Ieee.Positive.{den, den_pos}
use Rattle.magnitude.proofs.OrderAndBounds.{between-at-most}
use Rattle.interval.proofs.Signed.{gain, Ordered, le-le, le-lt}
use Rattle.interval.proofs.Between.{Between, between, point}
use Rattle.interval.proofs.Products.{quotient-between}
use Rattle.sinc_settings.specs.Ranges.{zero-f, one-f}
use Rattle.bank_choice.specs.Rates.{bank_ok, rate_step, steps_of, rate_of}
use Rattle.bank_choice.proofs.SetCounts.{span, least, most, ceiling-most}
use Rattle.bank_choice.proofs.CoarseSteps.{unit, coarse, exactly, difference-under, below_top}
use Rattle.bank_choice.proofs.RatesInSteps.{span_of, reach_of, plain_top, finite-top, above, below, by-k}
use Rattle.bank_choice.proofs.RatesInSteps.{rate-under}
use Rattle.bank_choice.proofs.StepArithmetic.{share_above, next, room}

-- If max - 1 is at most a sixty-fourth there is one set.
narrow : (top : Float) → bank_ok top ≡ true → 64 * (gain top - den top) ≤ den top → steps_of top ≤ 1
unfolding steps_of div le lt round
narrow top ok h =
    let d = sub binary64 top one-f in
    let c = coarse 17179869184 in
    let u = span top ok in
    let small : T (le d c) = difference-under top 17179869184 (finite-top top ok) (omega (arith, above top ok)) in
    let b : Between zero-f rate_step d =
    between tt tt u.above.order (le-le d c rate_step u.above.second tt tt small tt) in
    let q : Between zero-f one-f (div binary64 d rate_step) =
    quotient-between binary64 tt b (point rate_step tt) tt refl refl tt tt in
    let one =
    between-at-most 1 zero-f (div binary64 d rate_step) one-f (lit≤ tt) (lit≤ tt) q.above.order
    q.below.order in
    max-le (lit≤ tt) (ceiling-most 1 _ one)

-- As many steps as reach k * i / n.
abbrev pub share_of : Float → ℕ → ℕ
share_of top i = share_above (reach_of top) i (steps_of top)

module _ (top : Float) (ok : bank_ok top ≡ true) (i : ℕ) (some : 0 < i) (less : i < steps_of top) where
  abbrev k : ℕ
  k = reach_of top

  abbrev j : ℕ
  j = share_of top i

  wide : 17179869184 * den top ≤ span_of top
  wide =
      omega (arith, lt_of_not-le (λ (h : 64 * (gain top - den top) ≤ den top). absurd (omega (arith, narrow top ok h))))

  by-j : (k * i ≤ j * steps_of top) × (j * steps_of top ≤ k * i + steps_of top)
  by-j = next (k * i) (steps_of top) (least top)

  j-fits : (j + 268435456) * den top ≤ span_of top
  j-fits =
      room (span_of top) (den top) i (steps_of top) k j (least top) less (most top ok) wide (by-k top ok).1 by-j.1

  pub j-small : j ≤ 1099511627776
  j-small = le_of_mul-le-mul_right (omega (arith, j-fits, add-mul j 268435456 (den top), below top ok)) (den_pos top)

  pub j-close : (unit + j + 268435456) * den top ≤ unit * gain top
  j-close =
      omega (
        arith,
        add-mul (unit + j) 268435456 (den top),
        add-mul unit j (den top),
        add-mul j 268435456 (den top),
        j-fits,
        above top ok,
      )

  pub set-under : Ordered (rate_of top (steps_of top) i) (coarse (unit + j))
  set-under = rate-under top ok i j (omega (arith, most top ok)) (omega (arith, j-small)) by-j.0

  pub not_last : T (lt (rate_of top (steps_of top) i) top)
  not_last =
      let G = exactly (unit + j) (omega (arith, j-small)) in
      let g = coarse (unit + j) in
      let room-left : (unit + j) * den top < unit * gain top =
      omega (arith, add-mul (unit + j) 268435456 (den top), j-close, den_pos top) in
      le-lt (rate_of top (steps_of top) i) g top set-under.first G.number (finite-top top ok) set-under.order
      (below_top (unit + j) g top G (finite-top top ok) (plain_top top ok) room-left)
