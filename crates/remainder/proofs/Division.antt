-- Remainders of whole numbers: a factor may be taken out of both, and a remainder may be taken at any step of a
-- product. Assumes nothing.
use Rattle.std.proofs.Common.{◌≡◌, ℕ, ◌+◌, ◌-◌, ◌*◌, ◌/◌, ◌%◌, ◌^◌, ◌<◌, ◌≤◌, sym, ap, ◌∙◌, add-zero, mul_assoc}
use Rattle.std.proofs.Common.{add-mul, div-add-mod', mul_right_comm, mul-div_cancel, arith, pow_pos, pow-add}
use native.Mathlib.Nat.{mul-mod_left}
use native.Mathlib.Nat.{mul-add-mod_self_right}
use lib.Arith.{mod-mul}

pub scale-mod : (a b c : ℕ) → 0 < b → 0 < c → a * c % (b * c) ≡ a % b * c
scale-mod a b c B C =
    mod-mul (a * c) B C
    ∙ ap (λ (z : ℕ). z % b * c + a * c % c) (mul-div_cancel a C)
    ∙ ap (λ (z : ℕ). a % b * c + z) (mul-mod_left a c)
    ∙ add-zero (a % b * c)

pub step-mod : (a b n : ℕ) → a % n * b % n ≡ a * b % n
step-mod a b n =
    sym (mul-add-mod_self_right (a / n * b) n (a % n * b))
    ∙ ap (λ (z : ℕ). (z + a % n * b) % n) (mul_right_comm (a / n) b n)
    ∙ ap (λ (z : ℕ). z % n) (sym (add-mul (a / n * n) (a % n) b) ∙ ap (λ (z : ℕ). z * b) (div-add-mod' a n))

-- The remainder of m and n at the places i and j.
pub placed : (m n i j : ℕ) → 0 < n → j ≤ i → m * 2 ^ (i - j) % n * 2 ^ j ≡ m * 2 ^ i % (n * 2 ^ j)
placed m n i j N h =
    sym (scale-mod (m * 2 ^ (i - j)) n (2 ^ j) N (pow_pos j))
    ∙ ap (λ (z : ℕ). z % (n * 2 ^ j)) (mul_assoc m (2 ^ (i - j)) (2 ^ j)
    ∙ ap (λ (z : ℕ). m * z) (sym (pow-add 2 (i - j) j) ∙ ap (λ (z : ℕ). 2 ^ z) (omega arith)))
