-- The arithmetic of `NotLast` and `AtMaximum`, over whole numbers. X is 2^40 (max - 1), over B. k steps of 2^-40 lie
-- above max - 1, j of them above k * i / n, and yet j of them and 2^28 more lie below max - 1, if i < n. Assumes
-- nothing.
use Rattle.std.proofs.Common.{
  ◌≡◌,
  ℕ,
  ◌+◌,
  ◌*◌,
  ◌/◌,
  ◌<◌,
  ◌≤◌,
  ap,
  ◌∙◌,
  mul-le-mul_right,
  add-mul,
  mul-le-mul_left,
  one-mul,
  le_of_mul-le-mul_right,
  arith,
}
use Rattle.interval.proofs.Signed.{ring}
use Rattle.integer_part.proofs.Floors.{quotient-around}
use Rattle.bank_choice.proofs.CoarseSteps.{unit}

abbrev pub steps_above : ℕ → ℕ → ℕ
steps_above X B = X / B + 1

abbrev pub share_above : ℕ → ℕ → ℕ → ℕ
share_above k i n = k * i / n + 1

pub next : (a b : ℕ) → 0 < b → (a ≤ (a / b + 1) * b) × ((a / b + 1) * b ≤ a + b)
next a b B =
    let q = quotient-around a b B in
    let e : (a / b + 1) * b ≡ a / b * b + b = add-mul (a / b) 1 b ∙ ap (λ (z : ℕ). a / b * b + z) (one-mul b) in
    (omega (arith, q.1), omega (arith, q.0))

pub room : (X B i n k j : ℕ) → 0 < n → i < n → n ≤ 50 → 17179869184 * B ≤ X → k * B ≤ X + B → j * n ≤ k * i + n
    → (j + 268435456) * B ≤ X
room X B i n k j some less few wide hk hj =
    let one_more : i + 1 ≤ n = omega arith in
    le_of_mul-le-mul_right
    (simp ring (omega (
      arith,
      simp ring at (mul-le-mul_right B hj),
      simp ring at (mul-le-mul_right i hk),
      simp ring at (mul-le-mul_left X one_more),
      simp ring at (mul-le-mul_left B few),
      simp ring at (mul-le-mul_left B one_more),
    )))
    some

-- The maximum is A / B and the rate below it G / C, so Y / (B * C) lies between them; `a` steps fit there, but not two
-- more.
module _ (A B G C Y a : ℕ) (gap : Y + G * B ≡ A * C)
    (fits : a * (B * C) ≤ unit * Y) (no_more : unit * Y ≤ (a + 1) * (B * C)) where
  pub from-below : a * (B * C) + G * B * unit ≤ A * C * unit
  from-below = simp ring (omega (arith, simp ring at fits, simp ring at gap))

  -- The rate g / c is at most k steps above 1, and may lie a step above the maximum.
  pub from-above : (g c k : ℕ) → 0 < B → g * unit ≤ (unit + k) * c → (unit + k) * B ≤ unit * A + B
      → g * C * unit ≤ (a + 2) * (c * C) + G * c * unit
  from-above g c k some h top =
      le_of_mul-le-mul_right
      (simp ring (omega (
        arith,
        simp ring at (mul-le-mul_right (C * B) h),
        simp ring at (mul-le-mul_right (c * C) top),
        simp ring at (ap (λ (z : ℕ). z * c) gap),
        simp ring at (mul-le-mul_right c no_more),
      )))
      some

  pub far : (j : ℕ) → 0 < B * C → G * unit ≤ (unit + j) * C → (unit + j + 268435456) * B ≤ unit * A → 268435456 ≤ a + 1
  far j some h top =
      le_of_mul-le-mul_right
      (simp ring (omega (
        arith,
        simp ring at (mul-le-mul_right B h),
        simp ring at (mul-le-mul_right C top),
        simp ring at gap,
        simp ring at no_more,
      )))
      some

  pub near : 0 < B * C → A ≤ 2 * B → a ≤ 2199023255552
  near some h =
      le_of_mul-le-mul_right
      (simp ring (omega (arith, simp ring at (mul-le-mul_right C h), simp ring at gap, simp ring at fits)))
      some

pub ordered : (A B G C j : ℕ) → G * unit ≤ (unit + j) * C → (unit + j + 268435456) * B ≤ unit * A → G * B ≤ A * C
ordered A B G C j h top =
    simp ring (omega (arith, simp ring at (mul-le-mul_right B h), simp ring at (mul-le-mul_right C top)))
