-- T4. Both sets are sets of the bank. A rate equal to a set's own rate reads the next tighter set, not that one, unless
-- it is the last set (`LastSet`) or its rate is within f64 epsilon of that of the set below. Otherwise the sets before
-- it are slower, and the blend is x / x, which is 1. Assumes nothing.
use Rattle.std.proofs.Common.{
  ◌≡◌,
  ℕ,
  ◌+◌,
  ◌-◌,
  ◌<◌,
  min,
  Bool,
  true,
  false,
  cond,
  T,
  eqb,
  pos,
  negsuc,
  sym,
  refl,
  ◌∙◌,
  true≢false,
  arith,
  T_not,
  ne_eqb,
  eqb-true,
}
use native.Mathlib.Nat.{min-eq_left}
use borrow.Author.Tests.{eqb-false}
use lib.Dec.{not_T}
use lib.Ieee.{Float, fin, binary64, round, sub, lt, le}
use lib.Ieee.Bits.{is_true, is_false}
use lib.Ieee.Fits.{and_i}
use lib.Ieee.Scale.{finite}
use Rattle.rounding.specs.Operations.{narrowed}
use Rattle.min_max.specs.Choice.{clamped}
use Rattle.magnitude.proofs.Comparisons.{lt→le}
use Rattle.interval.proofs.Signed.{nle→lt, lt→nle, le-le, le-lt}
use Rattle.interval.proofs.Between.{Between, between, point, difference-between}
use Rattle.sinc_settings.specs.Ranges.{zero-f, one-f}
use Rattle.bank_choice.specs.Rates.{bank_ok, steps_of, rate_of}
use Rattle.bank_choice.specs.Choosing.{slower_of, partition_of, lower_of, close_of, blend_of, chosen_of}
use Rattle.bank_choice.proofs.SetCounts.{in-range, least, most}
use Rattle.bank_choice.proofs.RatesGrow.{rate-finite, rate-grows, slower-before}
use Rattle.bank_choice.proofs.Partition.{found}
use Rattle.bank_choice.proofs.NotLast.{not_last}
use Rattle.bank_choice.proofs.GapFloats.{over-itself, difference-ge, difference-le}

-- ---- both are sets of the bank
pub safe-inside : (top rate : Float) → (chosen_of top rate).safe < steps_of top
unfolding chosen_of
safe-inside top rate = omega (arith, least top)

pub tighter-inside : (top rate : Float) → (chosen_of top rate).tighter < steps_of top
unfolding chosen_of
tighter-inside top rate = omega (arith, least top)

-- ---- what lies from 1 to the top is not clamped
pub inside-stays : (x top : Float) → T (finite x) → T (finite top) → T (le one-f x) → T (le x top)
    → clamped x one-f top ≡ x
unfolding clamped
inside-stays x top p q h k =
    rw (
      is_false (lt x one-f) (not_T (lt x one-f) (λ t. T_not (le one-f x) (lt→nle x one-f p tt t) h)),
      is_false (lt top x) (not_T (lt top x) (λ t. T_not (le x top) (lt→nle top x q p t) k)),
    )

abbrev epsilon : Float
epsilon = fin false 1 (negsuc 51)

module _ (top : Float) (ok : bank_ok top ≡ true) (i : ℕ) (among : i < steps_of top) where
  abbrev own : Float
  own = rate_of top (steps_of top) (i + 1)

  abbrev low : Float
  low = lower_of top (steps_of top) i

  abbrev gap : Float
  gap = sub binary64 own low

  own_is : Between one-f (fin false 51 (pos 0)) own
  own_is = rate-finite top ok (i + 1) (omega (arith, most top ok))

  -- The rate of the set below, or 1.0 for the first set.
  low-is : Between one-f (fin false 51 (pos 0)) low × T (le low own)
  unfolding le
  low-is = go (eqb i 0) (eqb-true i 0) (eqb-false i 0)
    where
      go : (b : Bool) → (b ≡ true → i ≡ 0) → (b ≡ false → i ≡ 0 → ⊥) → let l =
          cond b one-f (rate_of top (steps_of top) i) in
          Between one-f (fin false 51 (pos 0)) l × T (le l own)
      go true z n = (between tt tt tt tt, own_is.above.order)
      go false z n = (
        rate-finite top ok i (omega (arith, most top ok)),
        (rate-grows top ok i (i + 1) (omega arith) (omega (arith, most top ok))).order,
      )

  gap_is : Between (fin true 25 (pos 1)) (fin false 25 (pos 1)) gap
  unfolding sub
  gap_is = difference-between binary64 own_is low-is.0 refl refl tt tt

  finite-own : T (finite own)
  finite-own = own_is.above.second

  finite-low : T (finite low)
  finite-low = low-is.0.above.second

  finite-gap : T (finite gap)
  finite-gap = gap_is.above.second

  module _ (wide : close_of own low ≡ false) where
    pub gap-above : T (lt zero-f gap)
    unfolding le
    gap-above =
        let not-below = difference-ge own low finite-own finite-low low-is.1 in
        let over-epsilon =
        nle→lt epsilon gap tt finite-gap (not_T (le gap epsilon)
        (λ t. absurd (true≢false (sym (is_true _ (and_i (le (fin true 1 (negsuc 51)) gap) (le gap epsilon)
        (le-le (fin true 1 (negsuc 51)) zero-f gap tt tt finite-gap tt not-below) t))
        ∙ wide)))) in
        le-lt zero-f epsilon gap tt tt finite-gap tt over-epsilon

    low-slower : lt low own ≡ true
    low-slower =
        is_true _ (nle→lt low own finite-low finite-own (not_T (le own low)
        (λ t. T_not (le gap zero-f) (lt→nle zero-f gap tt finite-gap gap-above)
        (difference-le own low finite-own finite-low t))))

    not_itself : lt own own ≡ false
    not_itself =
        is_false _ (not_T (lt own own)
        (λ t. T_not (le own own) (lt→nle own own finite-own finite-own t) (point own finite-own).above.order))

    before : (j : ℕ) → j < i → slower_of top (steps_of top) own j ≡ true
    before j l =
        let e : i - 1 + 1 ≡ i = omega arith in
        slower-before top ok own j (i - 1) (omega arith) (omega arith)
        (rw e (rw (ne_eqb i 0 (λ z. omega arith)) at low-slower))

    place : partition_of top (steps_of top) own ≡ i
    place = sym (found (slower_of top (steps_of top) own) (steps_of top) i (omega arith) before (λ h. not_itself))

    pub whole-blend : blend_of own own low ≡ one-f
    unfolding blend_of narrowed round
    whole-blend = rw (over-itself gap finite-gap gap-above)

    -- The own rate of set i, if it is at most the bank's, as it always is unless set i is the last. If rounding took
    -- the rate of the last set above the bank's, no clamped rate equals it: `LastSet` says what is read there.
    pub reads-own : T (le own top)
        → ((chosen_of top own).safe ≡ i) × ((chosen_of top own).tighter ≡ min (i + 1) (steps_of top - 1))
        × ((chosen_of top own).which ≡ 1)
    unfolding chosen_of le
    reads-own h =
        let equal = inside-stays own top finite-own (in-range top ok).above.second own_is.above.order h in
        let s : min i (steps_of top - 1) ≡ i = min-eq_left (omega arith) in
        rw (equal, place, s, wide, whole-blend) (refl, refl, refl)

    pub reads-next : i + 1 < steps_of top
        → ((chosen_of top own).safe ≡ i) × ((chosen_of top own).tighter ≡ i + 1) × ((chosen_of top own).which ≡ 1)
    reads-next more =
        let r = reads-own (lt→le own top (not_last top ok (i + 1) (omega arith) more)) in
        (r.0, r.1 ∙ min-eq_left (omega arith), r.2)
