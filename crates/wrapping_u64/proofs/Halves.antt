-- A product modulo B * B from halves modulo B, over any base B: what a factor carries beyond B * B may be dropped
-- before the sum or after it. Assumes nothing.
use Rattle.std.proofs.Common.{◌≡◌, ℕ, ◌+◌, ◌*◌, ◌/◌, ◌%◌, ◌^◌, ◌<◌, lt_of_le_of_lt, le_of_lt, add_assoc, mul_assoc}
use Rattle.std.proofs.Common.{mul_comm, add-mul, mul-le-mul_left, mul-lt-mul_of_pos_right, mul-add, mul_left_comm}
use Rattle.std.proofs.Common.{pow_pos, pow-add}
use mathlib.Core.Path.{subst⁻¹}
use native.Mathlib.Nat.{mod-add-div'}
use native.Mathlib.Nat.{add-mul-mod_self_right, add-mod, add-mod-mod}

-- Digits that a factor c shifts out of the modulus may be dropped before or after the product.
keeps : (x m c : ℕ) → x % m * c % (m * c) ≡ x * c % (m * c)
keeps x m c =
    let whole : (x % m + x / m * m) * c ≡ x % m * c + x / m * (m * c) = simp (add-mul, mul_assoc) in
    rw (rw (mod-add-div' x m) at whole, add-mul-mod_self_right)

pub halves : (a b B : ℕ)
    → (a % B * (b % B) + (a % B * (b / B) % B + a / B * (b % B) % B) % B * B % (B * B)) % (B * B) ≡ a * b % (B * B)
halves a b B =
    let whole : (a % B + a / B * B) * (b % B + b / B * B)
    ≡ a % B * (b % B) + (a % B * (b / B) + a / B * (b % B)) * B + a / B * (b / B) * (B * B) =
    simp (add-mul, mul-add, mul_assoc, mul_comm, mul_left_comm, add_assoc)
    in
    rw (
      rw (mod-add-div' a B, mod-add-div' b B) at whole,
      add-mul-mod_self_right,
      ← add-mod (a % B * (b / B)),
      keeps,
      add-mod-mod,
    )

-- The product of two halves fits a whole word.
pub below : (k : ℕ) {a b : ℕ} → a < 2 ^ k → b < 2 ^ k → a * b < 2 ^ (k + k)
below k {a} {b} ha hb =
    subst⁻¹ (λ (n : ℕ). a * b < n) (pow-add 2 k k)
    (lt_of_le_of_lt (mul-le-mul_left a (le_of_lt hb)) (mul-lt-mul_of_pos_right ha (pow_pos k)))
