-- W12e. The rate that a number is, over the exponent of a 1: it is the only one that satisfies the equation, and there
-- is none if no number in range does. Then the two ways to an exponent of a 1: halving and doubling. Assumes nothing.
use mathlib.Core.Path.{◌≡◌, refl, sym, ap, ◌∙◌}
use mathlib.Core.Logic.{◌↔◌}
use mathlib.Core.Bool.{Bool, true, false, true≢false, cond, ◌&&◌}
use Prim.Native.Nat.{ℕ, suc, ◌+◌, ◌-◌, ◌*◌, ◌/◌, ◌%◌, ◌^◌, ◌≤◌, ◌<◌}
use native.Mathlib.Nat.{pow-suc, mul_assoc, mul_comm, mul-div_cancel, mul-mod_left, mul-le-mul_right}
use native.Mathlib.Omega.{arith}
use borrow.Author.Tests.{eq-eqb, eqb-true, le-leb, leb-true, lt-ltb, ltb-true}
use lib.Dec.{leb, ltb}
use lib.Pow.{pow-add, pow_pos}
use Rattle.extended_rate.specs.Rate.{in_range, is_rate_by, rate_by}

both_hold : (a b : Bool) → a && b ≡ true → (a ≡ true) × (b ≡ true)
both_hold true b h = (refl, h)
both_hold false b h = absurd (true≢false (sym h))

-- What holds for a rate.
pub record Rate (one field digits rate : ℕ) : Type 0 where
  pub no_sign : field < 0x8000
  pub low : 8000 ≤ rate
  pub high : rate ≤ 768000
  pub equation : digits * 2 ^ field ≡ rate * 2 ^ one

module _ (one field digits : ℕ) where
  pub met : (rate : ℕ) → is_rate_by one field digits rate ≡ true → Rate one field digits rate
  met rate h =
      let p = both_hold (ltb field 0x8000) _ h in
      let q = both_hold (in_range rate) _ p.1 in
      let r = both_hold (leb 8000 rate) _ q.0 in
      record {
        no_sign = ltb-true field 0x8000 p.0;
        low = leb-true 8000 rate r.0;
        high = leb-true rate 768000 r.1;
        equation = eqb-true _ _ q.1;
      }

  -- If the equation holds for a number, it is the quotient.
  quotient : (rate : ℕ) → digits * 2 ^ field ≡ rate * 2 ^ one → digits * 2 ^ field / 2 ^ one ≡ rate
  quotient rate e = ap (λ (n : ℕ). n / 2 ^ one) e ∙ mul-div_cancel rate (pow_pos one)

  -- A number that satisfies the equation is the rate if it is in range.
  pub whole : (rate : ℕ) → field < 0x8000 → digits * 2 ^ field ≡ rate * 2 ^ one
      → rate_by one field digits ≡ cond (in_range rate) rate 0
  unfolding rate_by
  whole rate s e =
      rw (quotient rate e, lt-ltb field 0x8000 s, eq-eqb (digits * 2 ^ field) (rate * 2 ^ one) e) (by (in_range rate))
    where
      by : (t : Bool) → cond (t && true) rate 0 ≡ cond t rate 0
      by true = refl
      by false = refl

  pub none : ((rate : ℕ) → Rate one field digits rate → ⊥) → rate_by one field digits ≡ 0
  unfolding rate_by
  none h = by (is_rate_by one field digits rate) refl
    where
      rate : ℕ
      rate = digits * 2 ^ field / 2 ^ one

      by : (t : Bool) → is_rate_by one field digits rate ≡ t → cond t rate 0 ≡ 0
      by true e = absurd (h rate (met rate e))
      by false e = refl

  -- W12e. A rate is handed out exactly if the number is that whole number, in range and without a sign.
  pub exactly : (rate : ℕ) → (0 < rate) × (rate_by one field digits ≡ rate) ↔ Rate one field digits rate
  unfolding rate_by
  exactly rate = (given, λ m. (omega (arith, m.low), whole rate m.no_sign m.equation ∙ in-range m))
    where
      in-range : Rate one field digits rate → cond (in_range rate) rate 0 ≡ rate
      in-range m = rw (le-leb 8000 rate m.low, le-leb rate 768000 m.high)

      q : ℕ
      q = digits * 2 ^ field / 2 ^ one

      by : (t : Bool) → is_rate_by one field digits q ≡ t → 0 < rate → cond t q 0 ≡ rate → Rate one field digits rate
      by true e p v = rw v at (met q e)
      by false e p v = absurd (omega arith)

      given : (0 < rate) × (rate_by one field digits ≡ rate) → Rate one field digits rate
      given h = by (is_rate_by one field digits q) refl h.0 h.1

-- ---- digits and exponents, as the loops change them
cancel : (k : ℕ) {a b : ℕ} → a * 2 ^ k ≡ b * 2 ^ k → a ≡ b
cancel k {a} {b} e =
    sym (mul-div_cancel a (pow_pos k)) ∙ ap (λ (n : ℕ). n / 2 ^ k) e ∙ mul-div_cancel b (pow_pos k)

-- A power of two by a lower one.
above : (lower higher n : ℕ) → lower ≤ higher → n * 2 ^ higher ≡ n * 2 ^ (higher - lower) * 2 ^ lower
above lower higher n h =
    let e : higher ≡ higher - lower + lower = omega arith in
    ap (λ (k : ℕ). n * 2 ^ k) e ∙ ap (λ (m : ℕ). n * m) (pow-add 2 (higher - lower) lower)
    ∙ sym (mul_assoc n (2 ^ (higher - lower)) (2 ^ lower))

pub halve : (d f : ℕ) → d % 2 ≡ 0 → d / 2 * 2 ^ (f + 1) ≡ d * 2 ^ f
halve d f h =
    let e : d / 2 * 2 ≡ d = omega arith in
    above f (f + 1) (d / 2) (omega arith)
    ∙ ap (λ (k : ℕ). d / 2 * 2 ^ k * 2 ^ f) (step f) ∙ ap (λ (n : ℕ). n * 2 ^ f) e
  where
    step : (f : ℕ) → f + 1 - f ≡ 1
    step f = omega arith

pub double : (d f : ℕ) → 0 < f → d * 2 * 2 ^ (f - 1) ≡ d * 2 ^ f
double d f h =
    let e : f - (f - 1) ≡ 1 = omega arith in
    sym (above (f - 1) f d (omega arith) ∙ ap (λ (k : ℕ). d * 2 ^ k * 2 ^ (f - 1)) e)

-- Odd digits at an exponent below that of a 1 are not a whole number.
pub odd-digits : (one f d rate : ℕ) → f < one → (d % 2 ≡ 0 → ⊥) → d * 2 ^ f ≡ rate * 2 ^ one → ⊥
odd-digits one f d rate l h e =
    let k = one - f - 1 in
    let g : one - f ≡ suc k = omega arith in
    let w : d ≡ rate * 2 ^ (one - f) = cancel f (e ∙ above f one rate (omega arith)) in
    h (ap (λ (n : ℕ). n % 2)
    (w ∙ ap (λ (n : ℕ). rate * 2 ^ n) g ∙ ap (λ (n : ℕ). rate * n) (pow-suc 2 k) ∙ sym (mul_assoc rate (2 ^ k) 2))
    ∙ mul-mod_left (rate * 2 ^ k) 2)

-- Digits above half the range, at an exponent above that of a 1, are out of range.
pub past-range : (one f d rate : ℕ) → one < f → 384000 < d → rate ≤ 768000 → d * 2 ^ f ≡ rate * 2 ^ one → ⊥
past-range one f d rate l h r e =
    let k = f - one - 1 in
    let g : f - one ≡ suc k = omega arith in
    let w : rate ≡ d * 2 ^ (f - one) = sym (cancel one (sym (above one f d (omega arith)) ∙ e)) in
    let v : rate ≡ d * 2 ^ k * 2 =
    w ∙ ap (λ (n : ℕ). d * 2 ^ n) g ∙ ap (λ (n : ℕ). d * n) (pow-suc 2 k) ∙ sym (mul_assoc d (2 ^ k) 2) in
    let p : 1 * d ≤ 2 ^ k * d = mul-le-mul_right d (pow_pos k) in
    omega (arith, mul_comm (2 ^ k) d)
