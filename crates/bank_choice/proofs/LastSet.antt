-- T4. A rate that is the bank's maximum, or is clamped to it, reads the last set alone, whatever f64 the maximum is.
-- Every set before the last is slower, and the blend counts as 1, or the rate of the last set is within f64 epsilon of
-- that of the set below. So it does not matter whether rounding left that rate at the maximum, below or above it.
-- Assumes nothing.
use Rattle.std.proofs.Common.{
  ◌≡◌,
  ℕ,
  ◌+◌,
  ◌-◌,
  ◌<◌,
  min,
  Bool,
  true,
  false,
  cond,
  T,
  negsuc,
  sym,
  refl,
  ap,
  ◌∙◌,
  inl,
  inr,
  eq-or-lt_of_le,
  arith,
  T_not,
  ne_eqb,
}
use native.Mathlib.Nat.{min-eq_right}
use lib.Dec.{not_T}
use lib.Ieee.{Float, nan, inf, fin, binary64, lt, le, fits}
use lib.Ieee.Bits.{is_true, is_false}
use lib.Ieee.Scale.{finite}
use Rattle.magnitude.proofs.Comparisons.{lt→le}
use Rattle.min_max.specs.Choice.{clamped}
use Rattle.interval.proofs.Signed.{lt→nle, le-le}
use Rattle.interval.proofs.Between.{between, point}
use Rattle.sinc_settings.specs.Ranges.{one-f}
use Rattle.bank_choice.specs.Rates.{bank_ok, steps_of, rate_of}
use Rattle.bank_choice.specs.Choosing.{slower_of, partition_of, lower_of, close_of, blend_of, which_of, chosen_of}
use Rattle.bank_choice.proofs.SetCounts.{in-range, least}
use Rattle.bank_choice.proofs.Partition.{reached}
use Rattle.bank_choice.proofs.NotLast.{not_last}
use Rattle.bank_choice.proofs.OneSet.{one_set}
use Rattle.bank_choice.proofs.NearOne.{high}
use Rattle.bank_choice.proofs.AtMaximum.{nearly-one}
use Rattle.bank_choice.proofs.OwnRate.{inside-stays, gap-above, whole-blend}

abbrev epsilon : Float
epsilon = fin false 1 (negsuc 22)

-- ---- rates that are clamped to the maximum: the maximum itself, and all above it, also an infinite one
pub at-maximum : (top : Float) → bank_ok top ≡ true → clamped top one-f top ≡ top
at-maximum top ok =
    let t = in-range top ok in
    inside-stays top top t.above.second t.above.second t.above.order
    (point top t.above.second).above.order

not-below-one : (top rate : Float) → T (finite top) → T (le one-f top) → T (lt top rate) → T (lt rate one-f) → ⊥
unfolding lt
not-below-one nan rate p k h t = p
not-below-one (inf s) rate p k h t = p
not-below-one (fin s m e) nan p k h t = t
not-below-one (fin s m e) (inf true) p k h t = h
not-below-one (fin s m e) (inf false) p k h t = t
not-below-one (fin s m e) (fin u n d) p k h t =
    let top = fin s m e in
    let rate = fin u n d in
    T_not (le one-f rate) (lt→nle rate one-f tt tt t) (le-le one-f top rate tt tt tt k (lt→le top rate h))

pub above-maximum : (top : Float) → bank_ok top ≡ true → (rate : Float) → T (lt top rate) → clamped rate one-f top ≡ top
unfolding clamped
above-maximum top ok rate h =
    let t = in-range top ok in
    rw (
      is_false (lt rate one-f)
          (not_T (lt rate one-f) (not-below-one top rate t.above.second t.above.order h)),
      is_true (lt top rate) h,
    )

-- ---- a blend that counts as 1 is not near 0
apart : T (le high epsilon) → ⊥
unfolding le
apart t = t

not_low : (b : Float) → T (le high b) → le b epsilon ≡ false
not_low b h =
    is_false _ (not_T (le b epsilon) (λ t. apart (le-le high b epsilon tt (between tt tt h t).above.second tt h t)))

module _ (top : Float) (ok : bank_ok top ≡ true) (held : T (fits binary64 top)) where
  abbrev last : ℕ
  last = steps_of top - 1

  abbrev own : Float
  own = rate_of top (steps_of top) (last + 1)

  abbrev low : Float
  low = lower_of top (steps_of top) last

  -- Every set before the last is slower.
  place : min (partition_of top (steps_of top) top) last ≡ last
  place =
      min-eq_right
      (reached (slower_of top (steps_of top) top) (steps_of top) last (omega arith)
      (λ j l. is_true _ (not_last top ok (j + 1) (omega arith) (omega arith))))

  among : last < steps_of top
  among = omega (arith, least top)

  blend-high : close_of own low ≡ false → T (le high (blend_of top own low))
  unfolding le
  blend-high wide = elim (eq-or-lt_of_le (least top)) [
    | inl e ↦
        let own_is : own ≡ top = ap (λ (n : ℕ). rate_of top n (n - 1 + 1)) (sym e) ∙ one_set top ok held in
        let whole : blend_of top own low ≡ one-f =
        ap (λ (z : Float). blend_of z own low) (sym own_is) ∙ whole-blend top ok last among wide in
        rw whole tt
    | inr l ↦
        let e : last + 1 ≡ steps_of top = omega arith in
        let f = ne_eqb last 0 (λ z. omega arith) in
        rw (e, f) (nearly-one top ok l (rw (e, f) at (gap-above top ok last among wide)))
  ]

  alone : (b : Bool) → close_of own low ≡ b
      → which_of b (le (blend_of top own low) epsilon) (le high (blend_of top own low)) ≡ cond b 0 1
  alone true e = refl
  alone false e =
      let h = blend-high e in rw (not_low (blend_of top own low) h, is_true (le high (blend_of top own low)) h)

  pub reads-last : (rate : Float) → clamped rate one-f top ≡ top
      → ((chosen_of top rate).safe ≡ last) × ((chosen_of top rate).tighter ≡ last)
      × ((chosen_of top rate).which ≡ cond (close_of own low) 0 1)
  unfolding chosen_of
  reads-last rate equal =
      let t : min (last + 1) last ≡ last = min-eq_right (omega arith) in
      rw (equal, place, t) (refl, refl, alone (close_of own low) refl)
