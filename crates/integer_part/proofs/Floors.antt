-- The floor of a number of magnitude at most b, for any b in the range of an `i64`. It is the quotient, or below zero
-- the quotient rounded up, with its sign. So it is at most the number, the number is below the next, and its own
-- magnitude is at most b. Assumes nothing.
use Rattle.std.proofs.Common.{◌≡◌, ℕ, zero, suc, ◌+◌, ◌-◌, ◌*◌, ◌/◌, ◌^◌, ◌<◌, ◌≤◌, true, false, ℤ, pos, negsuc, neg_ℤ}
use Rattle.std.proofs.Common.{nat_abs, ap, le_trans, le_of_suc-le-suc, mod-lt, suc-mul, div-lt_iff_lt-mul, add-mul}
use Rattle.std.proofs.Common.{le_antisymm, lt_of_mul-lt-mul_right, div-add-mod', div-mul-le_self, arith}
use native.Mathlib.Nat.{min-eq_left}
use lib.Signed.{mag}
use lib.Ieee.{Float, nan, inf, fin, up, down}
use lib.Ieee.Fits.{down_pos}
use lib.Ieee.Positive.{den}
use Rattle.interval.proofs.Signed.{gain, loss}
use Rattle.magnitude.specs.Bounds.{AtMost}
use Rattle.integer_part.proofs.IntegerSizes.{nat_abs-neg, mag-le}
use Rattle.integer_part.specs.Parts.{floor_of}

-- ---- a / d, and a / d rounded up
pub quotient-at-most : (a d b : ℕ) → 0 < d → a ≤ b * d → a / d ≤ b
quotient-at-most a d b D h = le_of_suc-le-suc ((div-lt_iff_lt-mul D).1 (omega (arith, suc-mul b d)))

pub ceiling-at-most : (a d b : ℕ) → 0 < d → a ≤ b * d → (a + (d - 1)) / d ≤ b
ceiling-at-most a d b D h = le_of_suc-le-suc ((div-lt_iff_lt-mul D).1 (omega (arith, suc-mul b d)))

pub quotient-around : (a d : ℕ) → 0 < d → (a / d * d ≤ a) × (a < a / d * d + d)
quotient-around a d D = (div-mul-le_self a d, omega (arith, div-add-mod' a d, mod-lt a D))

pub ceiling-around : (a d : ℕ) → 0 < d → (a ≤ (a + (d - 1)) / d * d) × ((a + (d - 1)) / d * d < a + d)
ceiling-around a d D =
    let e = div-add-mod' (a + (d - 1)) d in
    let l = mod-lt (a + (d - 1)) D in
    (omega arith, omega arith)

-- ---- the floor does not saturate
pub floor-not-negative : (b m : ℕ) (e : ℤ) → b < 2 ^ 63 → AtMost b (fin false m e)
    → floor_of (fin false m e) ≡ pos (m * up e / down e)
unfolding floor_of
floor-not-negative b m e B h =
    ap pos (min-eq_left (le_trans (quotient-at-most (m * up e) (down e) b (down_pos e) h) (omega arith)))

pub floor-negative : (b m : ℕ) (e : ℤ) → b < 2 ^ 63 → AtMost b (fin true m e)
    → floor_of (fin true m e) ≡ neg_ℤ (pos ((m * up e + (down e - 1)) / down e))
unfolding floor_of
floor-negative b m e B h =
    ap (λ (z : ℕ). neg_ℤ (pos z))
    (min-eq_left (le_trans (ceiling-at-most (m * up e) (down e) b (down_pos e) h) (omega arith)))

-- ---- the magnitude of the floor
pub floor-at-most : (b : ℕ) (x : Float) → b < 2 ^ 63 → AtMost b x → nat_abs (floor_of x) ≤ b
floor-at-most b nan B h = absurd h
floor-at-most b (inf s) B h = absurd h
floor-at-most b (fin false m e) B h =
    rw (floor-not-negative b m e B h) (quotient-at-most (m * up e) (down e) b (down_pos e) h)
floor-at-most b (fin true m e) B h =
    rw (floor-negative b m e B h, nat_abs-neg ((m * up e + (down e - 1)) / down e))
    (ceiling-at-most (m * up e) (down e) b (down_pos e) h)

pub floor-mag : (b : ℕ) (x : Float) → b < 2 ^ 63 → AtMost b x → mag (floor_of x) ≤ b
floor-mag b x B h = le_trans (mag-le (floor_of x)) (floor-at-most b x B h)

-- ---- z ≤ x < z + 1, where z is pos_part - neg_part and x is (gain - loss) / den: negative parts stand on the other
-- side
abbrev pub pos_part : ℤ → ℕ
pos_part (pos n) = n
pos_part (negsuc n) = 0

abbrev pub neg_part : ℤ → ℕ
neg_part (pos n) = 0
neg_part (negsuc n) = suc n

abbrev pub Around : ℤ → Float → Type 0
Around z x =
    (pos_part z * den x + loss x ≤ neg_part z * den x + gain x)
    × (neg_part z * den x + gain x < suc (pos_part z) * den x + loss x)

negated : (c m : ℕ) (e : ℤ) → m * up e ≤ c * down e → c * down e < m * up e + down e
    → Around (neg_ℤ (pos c)) (fin true m e)
negated zero m e l r = (omega arith, omega arith)
negated (suc c) m e l r = (omega arith, omega arith)

pub floor-around : (b : ℕ) (x : Float) → b < 2 ^ 63 → AtMost b x → Around (floor_of x) x
floor-around b nan B h = absurd h
floor-around b (inf s) B h = absurd h
floor-around b (fin false m e) B h =
    let q = quotient-around (m * up e) (down e) (down_pos e) in
    rw (floor-not-negative b m e B h) (omega arith, omega (arith, suc-mul (m * up e / down e) (down e)))
floor-around b (fin true m e) B h =
    let c = ceiling-around (m * up e) (down e) (down_pos e) in
    rw (floor-negative b m e B h) (negated ((m * up e + (down e - 1)) / down e) m e c.0 c.1)

-- No other integer has this property.
pub equal : (z w : ℤ) → pos_part z + neg_part w ≡ pos_part w + neg_part z → z ≡ w
equal (pos a) (pos b) e = ap pos (omega arith)
equal (pos a) (negsuc b) e = absurd (omega arith)
equal (negsuc a) (pos b) e = absurd (omega arith)
equal (negsuc a) (negsuc b) e = ap negsuc (omega arith)

meets : (z w : ℤ) (x : Float) → Around z x → Around w x → pos_part z + neg_part w ≤ pos_part w + neg_part z
meets z w x a b =
    le_of_suc-le-suc (lt_of_mul-lt-mul_right (den x)
    (simp (suc-mul, add-mul) (omega (arith, a.0, simp suc-mul at b.1))))

pub floor-unique : (b : ℕ) (x : Float) (z : ℤ) → b < 2 ^ 63 → AtMost b x → Around z x → z ≡ floor_of x
floor-unique b x z B h a =
    let f = floor-around b x B h in
    equal z (floor_of x) (le_antisymm (meets z (floor_of x) x a f) (meets (floor_of x) z x f a))
