-- Two's complement for every width: one sum, one remainder and one difference give `signed`; and bounds on its
-- magnitude, as it is and in units of 2^-23. Assumes nothing.
use mathlib.Core.Path.{◌≡◌, refl, sym, ap, ◌∙◌}
use mathlib.Core.Bool.{Bool, true, false, cond}
use Prim.Native.Nat.{ℕ, zero, suc, ◌+◌, ◌-◌, ◌*◌, ◌%◌, ◌^◌, ◌≤◌, ◌<◌}
use native.Mathlib.Nat.{pow-suc, mul-le-mul_right, suc-mul, mod-lt, mod-eq_of_lt, mod-eq-sub-mod}
use native.Mathlib.Omega.{arith}
use borrow.Author.Tests.{leb-true, leb-false, lt-ltb, le-ltb}
use lib.Dec.{leb}
use lib.IntN.{ℤ, pos, negsuc, neg_ℤ, sub_ℕ, ◌*ℤ◌}
use lib.Signed.{mag}
use lib.Pow.{pow-add, pow_pos, pow_mono}
use mir.Syntax.{w32}
use mir.Val.{SFits, to_z, of_z}
use mir.ValLaws.{to_z-of_z}
use Rattle.whole_samples.specs.Whole.{signed, units_of}

-- Let m be the range and h half of it. Adding h, taking the remainder by m and subtracting h gives the signed number.
module _ (h m d : ℕ) (two : m ≡ h + h) (l : d < m) where
  abbrev size : Bool → ℕ
  size t = cond t (m - d) d

  pub turned : sub_ℕ ((d + h) % m) h ≡ cond (leb h d) (neg_ℤ (pos (size (leb h d)))) (pos (size (leb h d)))
  turned = by (leb h d) refl
    where
      by : (t : Bool) → leb h d ≡ t → sub_ℕ ((d + h) % m) h ≡ cond t (neg_ℤ (pos (size t))) (pos (size t))
      by true e =
          let g = leb-true h d e in
          let cut : (d + h) % m ≡ d - h = mod-eq-sub-mod {n = d + h} {m = m} (omega arith)
          ∙ mod-eq_of_lt {m = m} (omega arith) ∙ omega arith in
          let back : m - d ≡ suc (h - suc (d - h)) = omega arith in
          rw (cut, lt-ltb (d - h) h (omega arith), back)
      by false e =
          let g = leb-false h d e in
          let cut : (d + h) % m ≡ d + h = mod-eq_of_lt {m = m} (omega arith) in
          let back : d + h - h ≡ d = omega arith in
          rw (cut, le-ltb (d + h) h (omega arith), back)

-- Bounds on a number, from its sign and its magnitude.
mag-negative : (k : ℕ) → 0 < k → mag (neg_ℤ (pos k)) ≡ k - 1
mag-negative zero h = absurd (omega arith)
mag-negative (suc k) h = omega arith

pub signed-small : (w n : ℕ) → 0 < w → mag (signed w n) < 2 ^ (w - 1)
signed-small w n p = by (leb (2 ^ (w - 1)) (n % 2 ^ w)) refl
  where
    twice : 2 ^ w ≡ 2 ^ (w - 1) * 2
    twice = let e : w ≡ suc (w - 1) = omega arith in ap (λ (v : ℕ). 2 ^ v) e ∙ pow-suc 2 (w - 1)

    below : n % 2 ^ w < 2 ^ w
    below = mod-lt n (pow_pos w)

    by : (t : Bool) → leb (2 ^ (w - 1)) (n % 2 ^ w) ≡ t
        → mag (cond t (neg_ℤ (pos (cond t (2 ^ w - n % 2 ^ w) (n % 2 ^ w))))
        (pos (cond t (2 ^ w - n % 2 ^ w) (n % 2 ^ w)))) < 2 ^ (w - 1)
    by true e =
        rw (mag-negative (2 ^ w - n % 2 ^ w) (omega (arith, below)))
        (omega (arith, leb-true (2 ^ (w - 1)) (n % 2 ^ w) e, twice, below))
    by false e = omega (arith, leb-false (2 ^ (w - 1)) (n % 2 ^ w) e)

-- The magnitude of a number of at most 24 digits is below 2 ^ 23.
pub signed-few : (w n : ℕ) → 0 < w → w ≤ 24 → mag (signed w n) < 2 ^ 23
signed-few w n p h =
    let l : w - 1 ≤ 23 = omega arith in
    let top : 2 ^ (w - 1) ≤ 2 ^ 23 = pow_mono l in
    omega (arith, signed-small w n p)

scaled_small : (z : ℤ) (b m : ℕ) → 0 < m → mag z < b → mag (z *ℤ pos m) < b * m
scaled_small (pos a) b m p h = omega (arith, mul-le-mul_right m h, suc-mul a m)
scaled_small (negsuc a) b m p h = rw (mag-negative (suc a * m) (omega (arith, suc-mul a m)))
    (omega (arith, mul-le-mul_right m h, suc-mul a m))

-- W1e. The same bound holds in units of 2^-23.
pub units_small : (w n : ℕ) → 0 < w → w ≤ 24 → mag (units_of w n) < 2 ^ 23
units_small w n p h =
    let k : w - 1 + (24 - w) ≡ 23 = omega arith in
    let e : 2 ^ (w - 1) * 2 ^ (24 - w) ≡ 2 ^ 23 = sym (pow-add 2 (w - 1) (24 - w)) ∙ ap (λ (v : ℕ). 2 ^ v) k in
    rw (← e) (scaled_small (signed w n) (2 ^ (w - 1)) (2 ^ (24 - w)) (pow_pos (24 - w)) (signed-small w n p))

-- ---- as an `i32` holds it
pub fits-i32 : (z : ℤ) → mag z < 2 ^ 23 → SFits w32 z
fits-i32 z h = record { sfits = omega arith }

pub kept : {z v : ℤ} → z ≡ v → mag v < 2 ^ 23 → to_z w32 (of_z w32 z) ≡ v
kept {v = v} e h = ap (λ (x : ℤ). to_z w32 (of_z w32 x)) e ∙ to_z-of_z w32 v (fits-i32 v h)
