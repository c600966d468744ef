-- `ring::length_for` meets its contract: the digits below the leading zeros are those of need - 1, at most 24 of them.
-- Assumes nothing.
use borrow.Author.Tests.{le-leb, lt-leb}
use mathlib.Core.Path.{◌≡◌, ap, ◌∙◌}
use mathlib.Core.Bool.{cond}
use Prim.Native.Nat.{ℕ, zero, suc, ◌-◌, ◌^◌, ◌*◌, ◌%◌, ◌≤◌, ◌<◌}
use native.Mathlib.Omega.{arith}
use native.Mathlib.Nat.{mod-eq_of_lt, lt_of_le_of_lt, two-pow-succ}
use lib.Dec.{lit<}
use lib.Count.{count_leading_zeros, leading_le}
use lib.Pow.{pow_mono}
use lib.Ieee.{size}
use lib.Ieee.Digits.{size-le, size-lt}
use Rattle.ring.specs.Length.{need, length_for, settings_ok}
use Rattle.ring.proofs.Masks.{digits-size}
use Rattle.ring.proofs.length_for.Goals as goal

-- How many digits need - 1 has.
abbrev digits : ℕ → ℕ → ℕ
digits m g = 64 - count_leading_zeros 64 (need m g - 1)

-- The number of the last digit.
abbrev last : ℕ → ℕ → ℕ
last m g = 63 - count_leading_zeros 64 (need m g - 1)

few : (m g : ℕ) → need m g ≤ 2 ^ 24 → digits m g ≤ 24
few m g h = rw (digits-size 64 (need m g - 1) (omega arith)) (size-le (need m g - 1) 24 (omega arith))

-- There is at least one, since need - 1 is not 0.
one : (m g : ℕ) → need m g ≤ 2 ^ 24 → digits m g ≡ suc (last m g)
one m g h =
    omega (
      arith,
      digits-size 64 (need m g - 1) (omega arith),
      size-lt (need m g - 1),
      pow-one (need m g - 1) (omega arith),
    )
  where
    pow-one : (n : ℕ) → 0 < n → 0 < size n
    pow-one n p = go (size n) (size-lt n)
      where
        go : (k : ℕ) → n < 2 ^ k → 0 < k
        go zero l = absurd (omega arith)
        go (suc k) l = omega arith

raised : (m g : ℕ) → need m g ≤ 2 ^ 24 → 2 * 2 ^ last m g % 2 ^ 64 ≡ cond (settings_ok m g) (length_for m g) 0
unfolding length_for
raised m g h =
    let whole : 2 * 2 ^ last m g ≡ 2 ^ digits m g =
    omega (arith, two-pow-succ (last m g), ap (λ (k : ℕ). 2 ^ k) (one m g h)) in
    let fits : 2 ^ digits m g < 2 ^ 64 = omega (arith, pow_mono (few m g h)) in
    rw whole (mod-eq_of_lt fits ∙ rw (le-leb (need m g) (2 ^ 24) h, digits-size 64 (need m g - 1) (omega arith)))

too_long : (m g : ℕ) → 2 ^ 24 < need m g → 0 ≡ cond (settings_ok m g) (length_for m g) 0
too_long m g h = rw (lt-leb (need m g) (2 ^ 24) h)

pub returns-then-maximum-gt16777216 : goal.returns-then-maximum-gt16777216
returns-then-maximum-gt16777216 c = let a = c.args in too_long a.maximum a.margin (omega arith)

pub returns-then-margin-gt16777216 : goal.returns-then-margin-gt16777216
returns-then-margin-gt16777216 c = let a = c.args in too_long a.maximum a.margin (omega arith)

pub returns-then-need-gt16777216 : goal.returns-then-need-gt16777216
returns-then-need-gt16777216 c = let a = c.args in too_long a.maximum a.margin (omega arith)

pub overflow_cast-last : goal.overflow_cast-last
overflow_cast-last c = record { fits = lt_of_le_of_lt (leading_le 64 _) (lit< tt) }

pub overflow_sub-last-2 : goal.overflow_sub-last-2
overflow_sub-last-2 c = let a = c.args in omega (arith, one a.maximum a.margin (omega arith))

pub overflow_shl-result : goal.overflow_shl-result
overflow_shl-result c = let a = c.args in omega (arith, few a.maximum a.margin (omega arith))

pub returns : goal.returns
returns c = let a = c.args in raised a.maximum a.margin (omega arith)
