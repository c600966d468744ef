-- Within ±2 ^ 52 the floor is x cut towards zero, or one less if the cut lies above x. Below zero the cut and the
-- quotient rounded up differ by one exactly if something was cut off, and one comparison with the cut shows that.
-- Assumes nothing.
use Rattle.std.proofs.Common.{◌≡◌, ℕ, zero, suc, ◌+◌, ◌-◌, ◌*◌, ◌/◌, ◌^◌, ◌<◌, ◌≤◌, min, Bool, true, false, cond, T}
use Rattle.std.proofs.Common.{ltb, ℤ, pos, negsuc, ◌-ℤ◌, neg_ℤ, sym, refl, ap, ◌∙◌, subst, true≢false, le_trans}
use Rattle.std.proofs.Common.{add-zero, mul-le-mul_right, suc-mul, add-mul, mul-lt-mul_of_pos_right, mul-one}
use Rattle.std.proofs.Common.{mul_right_comm, div-mul-le_self, arith, lit<, lit≤, le→leb, lt→ltb, ltb-false, ltb-true}
use Rattle.std.proofs.Common.{le-ltb, lt-ltb}
use native.Mathlib.Nat.{min-eq_left, min-le_left}
use native.Mathlib.Nat.{div-eq_of_lt-le}
use lib.Signed.{mag}
use lib.Ieee.{Float, nan, inf, fin, binary64, up, down, lt, le, of_int, in_float, to_signed}
use lib.Ieee.Fits.{down_pos}
use lib.Ieee.Exact.{HasValue}
use Rattle.magnitude.specs.Bounds.{AtMost}
use Rattle.magnitude.proofs.WholeFloats.{whole-value}
use Rattle.magnitude.proofs.OrderAndBounds.{at-most-mono, at-most-ge, at-most-lt}
use Rattle.integer_part.specs.Parts.{floor_of}
use Rattle.integer_part.proofs.IntegerSizes.{nat_abs-neg, mag-le}
use Rattle.integer_part.proofs.Floors.{quotient-at-most, floor-negative, quotient-around}

-- ---- what the cast to an `i64` needs
pub in-range : (x : Float) → AtMost (2 ^ 52) x → T (le (fin true 1 (pos 63)) x) × T (lt x (fin false 1 (pos 63)))
in-range x h = (
  at-most-ge (2 ^ 63) x (fin true 1 (pos 63)) (refl, refl) (at-most-mono x (lit≤ tt) h),
  at-most-lt (2 ^ 52) (2 ^ 63) x (fin false 1 (pos 63)) (lit< tt) (refl, refl) h,
)

-- ---- the cut is small, so that it is a float exactly
pub cut-mag : (x : Float) → AtMost (2 ^ 52) x → mag (to_signed 63 x) ≤ 2 ^ 52
unfolding to_signed
cut-mag nan h = absurd h
cut-mag (inf s) h = absurd h
cut-mag (fin false m e) h =
    le_trans (min-le_left (m * up e / down e) (2 ^ 63 - 1))
    (quotient-at-most (m * up e) (down e) (2 ^ 52) (down_pos e) h)
cut-mag (fin true m e) h =
    let q = min (m * up e / down e) (2 ^ 63) in
    le_trans (mag-le (neg_ℤ (pos q))) (rw (nat_abs-neg q)
    (le_trans (min-le_left (m * up e / down e) (2 ^ 63))
    (quotient-at-most (m * up e) (down e) (2 ^ 52) (down_pos e) h)))

pub in-float : (z : ℤ) → mag z ≤ 2 ^ 52 → T (in_float binary64 z)
unfolding in_float
in-float (pos n) h = le→leb n (2 ^ 53) (omega arith)
in-float (negsuc n) h = lt→ltb n (2 ^ 53) (omega arith)

-- ---- x compared with a whole number of its own sign
ltb-scale : (a b c : ℕ) → 0 < c → ltb (a * c) (b * c) ≡ ltb a b
ltb-scale a b c C = go (ltb a b) refl
  where
    go : (t : Bool) → ltb a b ≡ t → ltb (a * c) (b * c) ≡ t
    go true h = lt-ltb (a * c) (b * c) (mul-lt-mul_of_pos_right (ltb-true a b h) C)
    go false h = le-ltb (a * c) (b * c) (mul-le-mul_right c (ltb-false a b h))

scaled : (s : Bool) (m : ℕ) (e : ℤ) (n : ℕ) (d : ℤ) (q : ℕ) → n * up d * 1 ≡ q * down d
    → lt (fin s m e) (fin s n d) ≡ cond s (ltb (q * down e) (m * up e)) (ltb (m * up e) (q * down e))
unfolding lt
scaled s m e n d q v =
    go s (ap (λ (z : ℕ). z * down e) (sym (mul-one (n * up d)) ∙ v) ∙ mul_right_comm q (down d) (down e))
  where
    go : (s : Bool) → n * up d * down e ≡ q * down e * down d
        → lt (fin s m e) (fin s n d) ≡ cond s (ltb (q * down e) (m * up e)) (ltb (m * up e) (q * down e))
    go false w = rw w (ltb-scale (m * up e) (q * down e) (down d) (down_pos d))
    go true w = rw w (ltb-scale (q * down e) (m * up e) (down d) (down_pos d))

against : (s : Bool) (m : ℕ) (e : ℤ) (y : Float) (q : ℕ) → HasValue y s q 1
    → lt (fin s m e) y ≡ cond s (ltb (q * down e) (m * up e)) (ltb (m * up e) (q * down e))
against s m e nan q v = absurd v
against s m e (inf u) q v = absurd v
against s m e (fin u n d) q v =
    subst
    (λ (u : Bool). lt (fin s m e) (fin u n d) ≡ cond s (ltb (q * down e) (m * up e)) (ltb (m * up e) (q * down e)))
    (sym v.0) (scaled s m e n d q v.1)

-- ---- x compared with its cut, which is exact as a float
cut-not-negative : (m : ℕ) (e : ℤ) → AtMost (2 ^ 52) (fin false m e)
    → lt (fin false m e) (of_int binary64 (to_signed 63 (fin false m e))) ≡ false
unfolding to_signed
cut-not-negative m e h =
    let q = m * up e / down e in
    let l = quotient-at-most (m * up e) (down e) (2 ^ 52) (down_pos e) h in
    rw (min-eq_left (le_trans l (lit≤ tt)))
    (against false m e (of_int binary64 (pos q)) q (whole-value binary64 (pos q) (le_trans l (lit≤ tt)))
    ∙ le-ltb (m * up e) (q * down e) (div-mul-le_self (m * up e) (down e)))

cut-negative : (m : ℕ) (e : ℤ) → AtMost (2 ^ 52) (fin true m e)
    → to_signed 63 (fin true m e) ≡ neg_ℤ (pos (m * up e / down e))
unfolding to_signed
cut-negative m e h =
    ap (λ (z : ℕ). neg_ℤ (pos z))
    (min-eq_left (le_trans (quotient-at-most (m * up e) (down e) (2 ^ 52) (down_pos e) h) (lit≤ tt)))

beside-cut : (m : ℕ) (e : ℤ) (q : ℕ) → q ≤ 2 ^ 53
    → lt (fin true m e) (of_int binary64 (neg_ℤ (pos q))) ≡ ltb (q * down e) (m * up e)
unfolding of_int lt
beside-cut m e zero l =
    let z : m * up e * 1 + 0 * 1 * down e ≡ m * up e = omega arith in let w : 0 * down e ≡ 0 = omega arith in rw (z, w)
beside-cut m e (suc q) l = against true m e (of_int binary64 (negsuc q)) (suc q) (whole-value binary64 (negsuc q) l)

-- ---- the quotient rounded up
ceiling-more : (a d : ℕ) → 0 < d → a / d * d < a → (a + (d - 1)) / d ≡ suc (a / d)
ceiling-more a d D h =
    let r = quotient-around a d D in
    div-eq_of_lt-le d (omega (arith, suc-mul (a / d) d)) (omega (arith, add-mul (suc (a / d)) 1 d, suc-mul (a / d) d))

ceiling-same : (a d : ℕ) → 0 < d → a ≤ a / d * d → (a + (d - 1)) / d ≡ a / d
ceiling-same a d D h =
    let r = quotient-around a d D in
    div-eq_of_lt-le d (omega arith) (omega (arith, add-mul (a / d) 1 d))

less_one : (q : ℕ) → neg_ℤ (pos q) -ℤ pos 1 ≡ neg_ℤ (pos (suc q))
less_one zero = refl
less_one (suc q) = ap (λ (z : ℕ). negsuc (suc z)) (add-zero q)

pub step : (x : Float) (t : Bool) → AtMost (2 ^ 52) x → lt x (of_int binary64 (to_signed 63 x)) ≡ t
    → cond t (to_signed 63 x -ℤ pos 1) (to_signed 63 x) ≡ floor_of x
unfolding to_signed floor_of
step nan t h k = absurd h
step (inf s) t h k = absurd h
step (fin false m e) true h k = absurd (true≢false (sym k ∙ cut-not-negative m e h))
step (fin false m e) false h k = refl
step (fin true m e) t h k =
    ap (λ (z : ℤ). cond t (z -ℤ pos 1) z) (cut-negative m e h)
    ∙ go t (sym (beside-cut m e (m * up e / down e)
    (le_trans (quotient-at-most (m * up e) (down e) (2 ^ 52) (down_pos e) h) (lit≤ tt)))
    ∙ ap (λ (z : ℤ). lt (fin true m e) (of_int binary64 z)) (sym (cut-negative m e h))
    ∙ k)
    ∙ sym (floor-negative (2 ^ 52) m e (lit< tt) h)
  where
    go : (t : Bool) → ltb (m * up e / down e * down e) (m * up e) ≡ t
        → cond t (neg_ℤ (pos (m * up e / down e)) -ℤ pos 1) (neg_ℤ (pos (m * up e / down e)))
        ≡ neg_ℤ (pos ((m * up e + (down e - 1)) / down e))
    go true l =
        less_one (m * up e / down e)
        ∙ ap (λ (z : ℕ). neg_ℤ (pos z))
        (sym (ceiling-more (m * up e) (down e) (down_pos e) (ltb-true (m * up e / down e * down e) (m * up e) l)))
    go false l =
        ap (λ (z : ℕ). neg_ℤ (pos z))
        (sym (ceiling-same (m * up e) (down e) (down_pos e) (ltb-false (m * up e / down e * down e) (m * up e) l)))
