-- The order of squares, and that `whole_root` is the whole root. Nothing here is about floats. Assumes nothing.
use Rattle.std.proofs.Common.{◌≡◌, ℕ, zero, suc, ◌+◌, ◌*◌, ◌/◌, ◌^◌, ◌<◌, ◌≤◌, zero-le, le_of_eq, lt_of_lt_of_le}
use Rattle.std.proofs.Common.{lt_irrefl, zero-lt-suc, mul_assoc, mul_comm, div-lt_iff_lt-mul, add-mul, mul-le-mul}
use Rattle.std.proofs.Common.{pow-suc, lt_of_not-le, mul-add, mul_left_comm, arith, le-leb}
use mathlib.Core.Logic.{dite}
use native.Mathlib.Nat.{pow-le-pow_left}
use native.Mathlib.Decide.{dec_le}
use borrow.Author.Tests.{lt-leb}
use lib.Ieee.{size}
use lib.Ieee.Digits.{size-lt}
use Rattle.rounding.specs.Operations.{digits_root, whole_root}

pub ruleset ring = (mul-add, add-mul, mul_assoc, mul_comm, mul_left_comm)

pub sq-mono : {a b : ℕ} → a ≤ b → a * a ≤ b * b
sq-mono h = mul-le-mul h h

pub sq-lt-back : (a b : ℕ) → a * a < b * b → a < b
sq-lt-back a b h = lt_of_not-le (λ (g : b ≤ a). lt_irrefl (a * a) (lt_of_lt_of_le h (sq-mono g)))

-- s is the largest number with s * s ≤ n.
abbrev IsRoot : ℕ → ℕ → Type 0
IsRoot s n = (s * s ≤ n) × (n < (s + 1) * (s + 1))

digits-root : (k n : ℕ) → n < 4 ^ k → IsRoot (digits_root k n) n
unfolding digits_root
digits-root zero n h = (zero-le, h)
digits-root (suc k) n h =
    let q = digits_root k (n / 4) in
    let ih = digits-root k (n / 4) ((div-lt_iff_lt-mul (zero-lt-suc 3)).1 (lt_of_lt_of_le h (le_of_eq (pow-suc 4 k))))
    in
    let even : 2 * q * (2 * q) ≡ 4 * (q * q) = simp ring (omega arith) in
    let next : (2 * q + 1 + 1) * (2 * q + 1 + 1) ≡ 4 * ((q + 1) * (q + 1)) = simp ring (omega arith) in
    dite (dec_le ((2 * q + 1) * (2 * q + 1)) n)
    (λ l. rw (le-leb ((2 * q + 1) * (2 * q + 1)) n l) (l, omega arith))
    (λ g. rw (lt-leb ((2 * q + 1) * (2 * q + 1)) n (omega arith)) (omega arith, omega arith))

pub whole-root : (n : ℕ) → IsRoot (whole_root n) n
unfolding whole_root
whole-root n =
    digits-root (size n) n (lt_of_lt_of_le (size-lt n) (pow-le-pow_left {n = 2} {m = 4} (omega arith) (size n)))
