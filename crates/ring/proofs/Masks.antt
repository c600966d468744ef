-- A length that shares no digit with its predecessor is a power of two, and then a mask by the predecessor is the
-- remainder. And the digits below the leading zeros are those that `size` counts. Assumes nothing.
use mathlib.Core.Path.{◌≡◌, sym, ◌∙◌}
use mathlib.Core.Logic.{⊎_elim}
use Prim.Native.Nat.{ℕ, suc, ◌+◌, ◌-◌, ◌*◌, ◌%◌, ◌^◌, ◌≤◌, ◌<◌}
use native.Mathlib.Nat.{lt_of_not-le, lt_irrefl, eq-zero-or-pos}
use native.Mathlib.Omega.{arith}
use lib.Pow.{pow_mono, pow_pos}
use lib.Bits.{bit_and, and_block, and_mask}
use lib.Count.{count_leading_zeros, leading_top, leading_length}
use lib.Ieee.{size}
use lib.Ieee.Digits.{size-lt, size-le}

-- Between a power of two and the next the leading digit is also the predecessor's.
shared : (j r : ℕ) → 0 < r → r < 2 ^ j → bit_and (2 ^ j + r) (2 ^ j + r - 1) ≡ 0 → ⊥
shared j r p h e =
    let a : 2 ^ j + r ≡ 1 * 2 ^ j + r = omega arith in
    let b : 2 ^ j + r - 1 ≡ 1 * 2 ^ j + (r - 1) = omega arith in
    let z : bit_and (1 * 2 ^ j + r) (1 * 2 ^ j + (r - 1)) ≡ 0 = rw (b, a) at e in
    omega (arith, pow_pos j, sym (and_block j 1 1 r (r - 1) h (omega arith)) ∙ z)

pub power-of-two : (n : ℕ) → 0 < n → bit_and n (n - 1) ≡ 0 → (j : ℕ) × (n ≡ 2 ^ j)
power-of-two n p e =
    let t = leading_top (size n) n p (size-lt n) in
    let j = t.0 in
    let split : n ≡ 2 ^ j + (n - 2 ^ j) = omega (arith, t.2) in (
      j,
      ⊎_elim (λ z. omega (arith, t.2))
          (λ q. absurd (shared j (n - 2 ^ j) q (omega (arith, t.3)) (rw split at e)))
          (eq-zero-or-pos (n - 2 ^ j)),
    )

pub mask-mod : (k n : ℕ) → 0 < n → bit_and n (n - 1) ≡ 0 → bit_and k (n - 1) ≡ k % n
mask-mod k n p e = let t = power-of-two n p e in rw t.1 (and_mask k t.0)

pub digits-size : (w n : ℕ) → n < 2 ^ w → w - count_leading_zeros w n ≡ size n
digits-size w n h =
    let t = leading_length w n h in
    let short : size n ≤ t.0 = size-le n t.0 t.2 in
    let long : t.0 < suc (size n) = lt_of_not-le (λ s. lt_irrefl n (omega (arith, pow_mono s, t.3, size-lt n))) in
    omega (arith, t.1)
