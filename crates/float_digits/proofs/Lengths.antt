-- The length of a number in binary digits. The zeros above it fill the word, and a number that is moved up to a length
-- has that length. Assumes nothing.
use mathlib.Core.Path.{◌≡◌, refl, sym, ap, ◌∙◌, subst}
use Prim.Native.Nat.{ℕ, zero, suc, ◌+◌, ◌-◌, ◌*◌, ◌^◌, ◌≤◌, ◌<◌}
use native.Mathlib.Nat.{le_trans, le_of_eq, le-add_right, lt_of_lt_of_le, lt_of_le_of_lt, mul-le-mul_right, pow-suc}
use native.Mathlib.Omega.{arith}
use lib.Arith.{digits_lt}
use lib.Pow.{pow-add, shl_lt}
use lib.Count.{count_leading_zeros, leading_unique}
use lib.Ieee.{size}
use lib.Ieee.Digits.{back, size-lt, size_reaches, size-le}
use Rattle.rounding.proofs.NumberOrders.{pow_lt_back}

size-reach : (a z : ℕ) → size a ≡ z → 2 ^ z ≤ 2 * a + 1
size-reach a zero e = omega arith
size-reach a (suc j) e =
    let h : 2 ^ j ≤ a = size_reaches a j (omega arith) in
    let p : 2 ^ suc j ≡ 2 ^ j * 2 = pow-suc 2 j in
    omega arith

pub zeros-and-size : (k a : ℕ) → a < 2 ^ k → count_leading_zeros k a + size a ≡ k
zeros-and-size k a h =
    let l : size a ≤ k = size-le a k h in
    let z : k - size a ≡ count_leading_zeros k a =
    leading_unique k a (k - size a) (size a) (back k (size a) l) (size-lt a) (size-reach a (size a) refl) in
    omega arith

pub size-some : (d : ℕ) → 0 < d → 1 ≤ size d
size-some d h = go (size d) (size-lt d)
  where
    go : (z : ℕ) → d < 2 ^ z → 1 ≤ z
    go zero l = omega arith
    go (suc z) l = omega arith

-- A number of k digits below another.
pub size-over : (k hi lo : ℕ) → 0 < hi → lo < 2 ^ k → size (hi * 2 ^ k + lo) ≡ size hi + k
size-over k hi lo H L =
    let s = size-some hi H in
    let n = hi * 2 ^ k + lo in
    let e : size hi - 1 + k < size n =
    pow_lt_back (size hi - 1 + k) (size n) (lt_of_le_of_lt
    (le_trans (le_of_eq (pow-add 2 (size hi - 1) k))
    (le_trans (mul-le-mul_right (2 ^ k) (size_reaches hi (size hi - 1) (omega arith)))
    (le-add_right (hi * 2 ^ k) lo))) (size-lt n)) in
    let u : size n ≤ size hi + k =
    size-le n (size hi + k) (lt_of_lt_of_le (digits_lt (size-lt hi) L) (le_of_eq (sym (pow-add 2 (size hi) k)))) in
    omega arith

-- The number d, moved up until it has k digits.
module _ (d k : ℕ) (D : 0 < d) (K : size d ≤ k) where
  pub filled-least : 2 ^ (k - 1) ≤ d * 2 ^ (k - size d)
  filled-least =
      let s = size-some d D in
      let e : k - 1 ≡ size d - 1 + (k - size d) = omega arith in
      le_trans (le_of_eq (ap (λ (x : ℕ). 2 ^ x) e ∙ pow-add 2 (size d - 1) (k - size d)))
      (mul-le-mul_right (2 ^ (k - size d)) (size_reaches d (size d - 1) (omega arith)))

  pub filled-below : d * 2 ^ (k - size d) < 2 ^ k
  filled-below =
      let e : size d + (k - size d) ≡ k = omega arith in
      subst (λ (x : ℕ). d * 2 ^ (k - size d) < 2 ^ x) e (shl_lt (size d) (k - size d) (size-lt d))
