-- `wrapping_u64::shl` meets its contract: below 64 it is the product with 2^n, which is a word;
-- from 64 on 2^n is a multiple of 2^64. Assumes nothing.
use Rattle.std.proofs.Common.{◌≡◌, ℕ, ◌-◌, ◌*◌, ◌%◌, ◌^◌, ◌<◌, ◌≤◌, ◌∙◌, mod-eq_of_lt, mul_assoc, one-mul}
use Rattle.std.proofs.Common.{sub-add_cancel, pow-add}
use native.Mathlib.Nat.{mul-mod_left}
use lib.Pow.{pow-lt}
use Rattle.wrapping_u64.proofs.shl.Goals as goal

power : (n : ℕ) → n < 64 → 1 * 2 ^ n % 2 ^ 64 ≡ 2 ^ n
power n h = rw (one-mul, mod-eq_of_lt (pow-lt h))

gone : (a n : ℕ) → 64 ≤ n → 0 ≡ a * 2 ^ n % 2 ^ 64
gone a n h = rw (← sub-add_cancel h, pow-add 2 (n - 64) 64, ← mul_assoc, mul-mod_left)

pub returns-then-n-lt64 : goal.returns-then-n-lt64
returns-then-n-lt64 c = c.wrapping_mul.ensures ∙ rw (power _ c.if-n-lt64.true)

pub returns-else-n-lt64 : goal.returns-else-n-lt64
returns-else-n-lt64 c = gone _ _ c.if-n-lt64.false
