-- The definition of exclusive or that computes agrees with the machine's, for any number of digits; and the exclusive
-- or of two numbers is 0 only if they are equal. Assumes nothing.
use Rattle.std.proofs.Common.{◌≡◌, ℕ, zero, suc, ◌+◌, ◌/◌, ◌%◌, ◌^◌, ◌<◌, refl, ◌∙◌, arith, lit<}
use native.Mathlib.Nat.{pow-succ'}
use lib.Arith.{lt-one}
use lib.Bits.{bit_xor, xor_step, xor_zero_l, xor_add_and, and_le_l, and_le_r, differ}
use Rattle.wrapping_u64.specs.Xor.{xor_to}

digit : (x y : ℕ) → x < 2 → y < 2 → differ x y ≡ (x + y) % 2
digit zero zero h k = refl
digit zero (suc zero) h k = refl
digit zero (suc (suc y)) h k = absurd (omega arith)
digit (suc zero) zero h k = refl
digit (suc zero) (suc zero) h k = refl
digit (suc zero) (suc (suc y)) h k = absurd (omega arith)
digit (suc (suc x)) y h k = absurd (omega arith)

half : (k a : ℕ) → a < 2 ^ suc k → a / 2 < 2 ^ k
half k a h = omega (arith, pow-succ' 2 k)

pub xor_is : (k a b : ℕ) → a < 2 ^ k → b < 2 ^ k → bit_xor a b ≡ xor_to k a b
unfolding xor_to
xor_is zero a b ha hb = rw (lt-one ha, xor_zero_l, lt-one hb)
xor_is (suc k) a b ha hb =
    xor_step a b
    ∙ rw (xor_is k (a / 2) (b / 2) (half k a ha) (half k b hb), digit (a % 2) (b % 2) (omega arith) (omega arith))

pub xor_below : (k a b : ℕ) → xor_to k a b < 2 ^ k
unfolding xor_to
xor_below zero a b = lit< tt
xor_below (suc k) a b = omega (arith, xor_below k (a / 2) (b / 2), pow-succ' 2 k)

pub xor-zero : (a b : ℕ) → bit_xor a b ≡ 0 → a ≡ b
xor-zero a b h = omega (arith, xor_add_and a b, and_le_l a b, and_le_r a b)
