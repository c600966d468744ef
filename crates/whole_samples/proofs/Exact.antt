-- W1, D3. For every width up to 24 digits a sample is signed w n / 2^(w-1) without rounding, in both formats. Assumes
-- nothing.
use mathlib.Core.Path.{◌≡◌, refl, sym, ap, ◌∙◌}
use mathlib.Core.Bool.{Bool, true, false, cond}
use Prim.Native.Nat.{ℕ, suc, ◌+◌, ◌-◌, ◌*◌, ◌%◌, ◌^◌, ◌≤◌, ◌<◌}
use native.Mathlib.Nat.{pow-suc, mul_assoc, mul-le-mul_right, mul_comm}
use native.Mathlib.Omega.{arith}
use borrow.Author.Tests.{leb-true, leb-false}
use lib.Dec.{leb, lit≤}
use lib.Pow.{pow-add, pow_pos, pow_mono, pow-lt}
use lib.Ieee.{Format, binary32, binary64, prec, emax, low}
use lib.Ieee.Exact.{HasValue, round_exact}
use Rattle.whole_samples.specs.Whole.{negative, size, whole_of}

-- The magnitude of a number of w digits is at most 2 ^ (w - 1).
pub small : (w n : ℕ) → 0 < w → size w n ≤ 2 ^ (w - 1)
small w n p = by (leb (2 ^ (w - 1)) (n % 2 ^ w)) refl
  where
    twice : 2 ^ w ≡ 2 ^ (w - 1) * 2
    twice = let e : w ≡ suc (w - 1) = omega arith in ap (λ (v : ℕ). 2 ^ v) e ∙ pow-suc 2 (w - 1)

    by : (t : Bool) → leb (2 ^ (w - 1)) (n % 2 ^ w) ≡ t → cond t (2 ^ w - n % 2 ^ w) (n % 2 ^ w) ≤ 2 ^ (w - 1)
    by true e = omega (arith, leb-true (2 ^ (w - 1)) (n % 2 ^ w) e, twice)
    by false e = omega (arith, leb-false (2 ^ (w - 1)) (n % 2 ^ w) e)

pub wide : (f : Format) → 2 ^ 23 < 2 ^ prec f
wide binary32 = lit≤ tt
wide binary64 = lit≤ tt

deep : (f : Format) → 23 ≤ low f
deep binary32 = lit≤ tt
deep binary64 = lit≤ tt

pub exact : (f : Format) (w n : ℕ) → 0 < w → w ≤ 24 → HasValue (whole_of f w n) (negative w n) (size w n) (2 ^ (w - 1))
unfolding whole_of
exact f w n p h =
    let j = low f - (w - 1) in
    let s = small w n p in
    let l : w - 1 ≤ 23 = omega arith in
    let top : 2 ^ (w - 1) ≤ 2 ^ 23 = pow_mono l in
    let e : 2 ^ low f ≡ 2 ^ j * 2 ^ (w - 1) = ap (λ (v : ℕ). 2 ^ v) (omega (arith, deep f)) ∙ pow-add 2 j (w - 1) in
    let g : low f < low f + suc (emax f) = omega arith in
    let c : size w n * 2 ^ j ≤ 2 ^ (w - 1) * 2 ^ j = mul-le-mul_right (2 ^ j) s in
    round_exact f (negative w n) (size w n) (2 ^ (w - 1)) (size w n) j (pow_pos (w - 1)) (omega (arith, wide f))
    (omega (arith, c, e, mul_comm (2 ^ j) (2 ^ (w - 1)), pow-lt g))
    (ap (λ (v : ℕ). size w n * v) e ∙ sym (mul_assoc (size w n) (2 ^ j) (2 ^ (w - 1))))
