-- W1e, D3. A stored PCM sample of at most 24 digits is a whole sample in the sense of demand 3: signed w n · 2^(24-w)
-- of 2^23. By one law for any width. Assumes nothing.
use mathlib.Core.Path.{◌≡◌, sym, ap, ◌∙◌}
use mathlib.Core.Bool.{Bool, true, false, cond}
use Prim.Native.Nat.{ℕ, ◌+◌, ◌-◌, ◌*◌, ◌^◌, ◌≤◌, ◌<◌}
use native.Mathlib.Nat.{mul_assoc, mul_comm, mul-le-mul_right, mul-zero, zero-mul}
use native.Mathlib.Omega.{arith}
use lib.Dec.{lit≤}
use lib.IntN.{ℤ, pos, negsuc, neg_ℤ, nat_abs, ◌*ℤ◌}
use lib.Pow.{pow-add, pow_pos}
use lib.Ieee.{Format}
use lib.Ieee.Exact.{HasValue}
use Rattle.rounding.proofs.Values.{rescale}
use Rattle.rounding_error.specs.Fraction.{whole, Same}
use Rattle.rounding_error.specs.Value.{Is}
use Rattle.rounding_error.specs.Value as value
use Rattle.rounding_error.proofs.Same.{same-trans}
use Rattle.rounding_error.proofs.Value.{value-is}
use Rattle.rounding_error.proofs.WholeDifferences.{Rep, rep_pos, rep-to, rep_neg, rep_mul, rep-same}
use Rattle.cubic_bound.specs.Desk.{WholeSample}
use Rattle.whole_samples.specs.Whole.{negative, size, whole_of, units_of}
use Rattle.whole_samples.proofs.Exact.{small, exact}

-- The size of a signed number, as a fraction and as a whole number.
absolute : (z : ℤ) (s : Bool) (a : ℕ) → Rep z (cond s 0 a) (cond s a 0) → nat_abs z ≡ a
absolute (pos k) true a r = omega (arith, r.is)
absolute (pos k) false a r = omega (arith, r.is)
absolute (negsuc k) true a r = omega (arith, r.is)
absolute (negsuc k) false a r = absurd (omega (arith, r.is))

same_size : (z : ℤ) (s : Bool) (a d : ℕ) → 0 < d → Rep z (cond s 0 a) (cond s a 0)
    → Same (value.signed s a d) (whole z d)
same_size z true a d p r = rep-same d p r
same_size z false a d p r = rep-same d p r

scaled : (s : Bool) (a m : ℕ) → Rep (cond s (neg_ℤ (pos a)) (pos a) *ℤ pos m) (cond s 0 (a * m)) (cond s (a * m) 0)
scaled true a m = rep-to (rep_mul (rep_neg (rep_pos a)) (rep_pos m)) (simp (mul-zero, zero-mul) (omega arith))
scaled false a m = rep-to (rep_mul (rep_pos a) (rep_pos m)) (simp (mul-zero, zero-mul) (omega arith))

-- W1k, D3. In both formats: an f32 sample is the same whole sample.
pub suits : (f : Format) (w n : ℕ) → 0 < w → w ≤ 24 → WholeSample (whole_of f w n) (units_of w n)
suits f w n p h =
    let m = 2 ^ (24 - w) in
    let s = negative w n in
    let a = size w n in
    let z = units_of w n in
    let r = scaled s a m in
    let k : 24 - w + (w - 1) ≡ 23 = omega arith in
    let e : m * 2 ^ (w - 1) ≡ 2 ^ 23 = sym (pow-add 2 (24 - w) (w - 1)) ∙ ap (λ (v : ℕ). 2 ^ v) k in
    let o : a * 2 ^ 23 ≡ a * m * 2 ^ (w - 1) = ap (λ (t : ℕ). a * t) (sym e) ∙ sym (mul_assoc a m (2 ^ (w - 1))) in
    let v : HasValue (whole_of f w n) s (a * m) (2 ^ 23) =
    rescale (whole_of f w n) s a (2 ^ (w - 1)) (a * m) (2 ^ 23) (pow_pos (w - 1)) o (exact f w n p h) in
    let i : Is (whole_of f w n) (value.signed s (a * m) (2 ^ 23)) =
    value-is (whole_of f w n) s (a * m) (2 ^ 23) (lit≤ tt) v in
    record {
      is = record { real = i.real; same = same-trans i.same (same_size z s (a * m) (2 ^ 23) (lit≤ tt) r) };
      small = rw (absolute z s (a * m) r) (omega
          (arith, mul-le-mul_right m (small w n p), e, mul_comm m (2 ^ (w - 1))));
    }
