-- A word exclusive or a shift of itself, to either side and by any number of digits above 0, is 0 only if the word is
-- 0. Otherwise the word would equal its own shift. To the right the shift halves it; to the left, if 2^j divides it
-- then so does 2^(j + 1). Assumes nothing.
use Rattle.std.proofs.Common.{◌≡◌, ℕ, zero, suc, ◌-◌, ◌*◌, ◌/◌, ◌%◌, ◌^◌, ◌<◌, ◌≤◌, ◌∙◌, inl, inr, lt_of_le_of_lt}
use Rattle.std.proofs.Common.{mod-lt, eq-zero-or-pos, pow-suc, sub-add_cancel, not-le_of_lt, one-add, arith, pow_pos}
use Rattle.std.proofs.Common.{pow-add, shr-shr}
use Prim.Native.Nat.{◌∣◌}
use native.Mathlib.Nat.{one-dvd, dvd-mul_left}
use native.Mathlib.Nat.{dvd-mod_iff, mul-dvd-mul, le_of_dvd}
use lib.Pow.{shr_le}
use Rattle.wrapping_u64.specs.Xor.{xor}
use Rattle.wrapping_u64.proofs.Digitwise.{xor_is, xor-zero}

equal : (a b : ℕ) → a < 2 ^ 64 → b < 2 ^ 64 → xor a b ≡ 0 → a ≡ b
equal a b ha hb h = xor-zero a b (xor_is 64 a b ha hb ∙ h)

pub right_zero : (n x : ℕ) → x < 2 ^ 64 → xor x (x / 2 ^ suc n) ≡ 0 → x ≡ 0
right_zero n x hx h =
    let same : x ≡ x / 2 ^ suc n = equal x (x / 2 ^ suc n) hx (lt_of_le_of_lt (shr_le x (suc n)) hx) h in
    let halved : x / 2 ^ suc n ≤ x / 2 = rw (← one-add n, ← shr-shr x 1 n) (shr_le (x / 2) n) in
    omega arith

divides : (j w : ℕ) → j ≤ w → 2 ^ j ∣ 2 ^ w
divides j w h = rw (← sub-add_cancel h, pow-add 2 (w - j) j) (dvd-mul_left (2 ^ j) (2 ^ (w - j)))

every : (n w x : ℕ) → x ≡ x * 2 ^ suc n % 2 ^ w → (j : ℕ) → j ≤ w → 2 ^ j ∣ x
every n w x e zero h = one-dvd x
every n w x e (suc j) h =
    rw e
    ((dvd-mod_iff (2 ^ suc j) (divides (suc j) w h)).1
    (rw (pow-suc 2 j, pow-suc 2 n) (mul-dvd-mul (2 ^ j) 2 (every n w x e j (omega arith)) (dvd-mul_left 2 (2 ^ n)))))

pub left-zero : (n x : ℕ) → x < 2 ^ 64 → xor x (x * 2 ^ suc n % 2 ^ 64) ≡ 0 → x ≡ 0
left-zero n x hx h =
    let whole : 2 ^ 64 ∣ x =
    every n 64 x (equal x (x * 2 ^ suc n % 2 ^ 64) hx (mod-lt _ (pow_pos 64)) h) 64 (omega arith) in
    elim (eq-zero-or-pos x) [ inl z ↦ z | inr p ↦ absurd (not-le_of_lt hx (le_of_dvd p whole)) ]
