-- The check of a guess. A difference that is worked out by halves is exact if each step of it fits, and what it leaves
-- shows which whole number is nearest. Assumes nothing.
use Rattle.std.proofs.Common.{◌≡◌, ℕ, ◌+◌, ◌-◌, ◌*◌, ◌/◌, ◌%◌, ◌^◌, ◌<◌, ◌≤◌, Bool, true, false, cond, leb, sym, ap}
use Rattle.std.proofs.Common.{◌∙◌, inl, inr, zero-le, le_refl, mul-le-mul, arith, le-leb}
use mathlib.Core.Logic.{dite}
use Prim.Native.Nat.{compare, Ordering}
use native.Mathlib.Decide.{dec_le}
use borrow.Author.Tests.{lt-leb}
use lib.Bits.{and_mask}
use lib.Ieee.Nearest.{closest}
use Rattle.rounding.proofs.NumberOrders.{Cmp, cmp}
use Rattle.float_digits.proofs.PackMeaning.{quarter}
use Rattle.square_root.specs.Digits.{NearRoot, Nearest}
use Rattle.square_root.proofs.Squares.{ring, sq-lt-back}

pub product_le : {h l : ℕ} → h < 2 ^ 27 → l < 2 ^ 27 → h * l ≤ 0x7ff_ffff * 0x7ff_ffff
product_le {h} {l} H L =
    let a : h ≤ 0x7ff_ffff = omega arith in
    let b : l ≤ 0x7ff_ffff = omega arith in
    mul-le-mul a b

pub rest-is : (c h l a b r : ℕ) → h < 2 ^ 27 → l < 2 ^ 27 → (a + h * h) % 2 ^ 64 ≡ c
    → (b + h * l * 2) % 2 ^ 64 ≡ a * 2 ^ 27 % 2 ^ 64 → (r + l * l) % 2 ^ 64 ≡ b * 2 ^ 27 % 2 ^ 64
    → a < 2 ^ 30 → b < 2 ^ 36 → r < 2 ^ 63 → (h * 2 ^ 27 + l) * (h * 2 ^ 27 + l) + r ≡ c * 2 ^ 54
rest-is c h l a b r H L e f g A B R =
    let x = product_le H H in
    let y = product_le H L in
    let z = product_le L L in
    let first : a + h * h ≡ c = omega arith in
    let second : b + h * l * 2 ≡ a * 2 ^ 27 = omega arith in
    let third : r + l * l ≡ b * 2 ^ 27 = omega arith in
    square h l ∙ together c a b r (h * h) (h * l) (l * l) first second third
  where
    square : (h l : ℕ) → (h * 2 ^ 27 + l) * (h * 2 ^ 27 + l) + r ≡ h * h * 2 ^ 54 + h * l * 2 * 2 ^ 27 + l * l + r
    square h l = simp ring (omega arith)

    together : (c a b r x y z : ℕ) → a + x ≡ c → b + y * 2 ≡ a * 2 ^ 27 → r + z ≡ b * 2 ^ 27
        → x * 2 ^ 54 + y * 2 * 2 ^ 27 + z + r ≡ c * 2 ^ 54
    together c a b r x y z e f g = omega arith

-- ---- one step up adds 8 y to the square of 2 y - 1
step : (z : ℕ) → (2 * (z + 1) + 1) * (2 * (z + 1) + 1) ≡ (2 * z + 1) * (2 * z + 1) + 8 * (z + 1)
step z = simp ring (omega arith)

steps : (y : ℕ) → 1 ≤ y → (2 * y + 1) * (2 * y + 1) ≡ (2 * y - 1) * (2 * y - 1) + 8 * y
steps y h =
    let e : 2 * y - 1 ≡ 2 * (y - 1) + 1 = omega arith in
    let o : y ≡ y - 1 + 1 = omega arith in
    ap (λ (x : ℕ). (2 * x + 1) * (2 * x + 1)) o
    ∙ step (y - 1)
    ∙ ap (λ (x : ℕ). (2 * (y - 1) + 1) * (2 * (y - 1) + 1) + 8 * x) (sym o)
    ∙ ap (λ (x : ℕ). x * x + 8 * y) (sym e)

pub digit-le : (b : Bool) → cond b 1 0 ≤ 1
digit-le true = le_refl 1
digit-le false = zero-le

pub nearest-is : (c y r t : ℕ) → 2 ^ 52 ≤ y → y < 2 ^ 53 → (2 * y - 1) * (2 * y - 1) + r ≡ c * 2 ^ 54 → r < 16 * y + 8
    → t ≡ cond (leb (8 * y) r) 1 0 → Nearest c (y + t)
nearest-is c y r t L T e R d =
    let one = steps y (omega arith) in
    let two = steps (y + 1) (omega arith) in
    let back : 2 * (y + 1) - 1 ≡ 2 * y + 1 = omega arith in
    let square : (2 * (y + 1) - 1) * (2 * (y + 1) - 1) ≡ (2 * y + 1) * (2 * y + 1) = ap (λ (x : ℕ). x * x) back in
    dite (dec_le (8 * y) r)
    (λ h.
    let up : t ≡ 1 = d ∙ rw (le-leb (8 * y) r h) in
    rw up record { least = omega arith; top = omega arith; above = omega arith; under = omega arith })
    (λ g.
    let none : t ≡ 0 = d ∙ rw (lt-leb (8 * y) r (omega arith)) in
    let stay : y + t ≡ y = omega arith in
    rw stay record { least = omega arith; top = omega arith; above = omega arith; under = omega arith })

-- ---- digits to the nearest, with two more that show on which side the root lies
pub record Marked (c y w : ℕ) : Type 0 where
  pub least : 2 ^ 54 ≤ w
  pub below : w < 2 ^ 55
  pub near : NearRoot (c * 2 ^ 56) w
  pub nearest : closest w 4 ≡ y

module _ (c y : ℕ) (L : 2 ^ 52 ≤ c) (T : c < 2 ^ 54) (N : Nearest c y) where
  fourth : (w : ℕ) → (w + (1 + w / 4 % 2)) / 4 ≡ y → closest w 4 ≡ y
  fourth w h = sym (quarter w) ∙ ap (λ (x : ℕ). (w + (1 + x)) / 4) (and_mask (w / 4) 1) ∙ h

  marked_by : (o : Ordering) → Cmp o (4 * y * (4 * y)) (c * 2 ^ 56) → (w : ℕ) × Marked c y w
  marked_by Ordering.lt h =
      let B : 4 * y < 2 ^ 55 = sq-lt-back (4 * y) (2 ^ 55) (omega arith) in
      let square : (4 * y + 1 + 1) * (4 * y + 1 + 1) ≡ 4 * ((2 * y + 1) * (2 * y + 1)) = simp ring (omega arith) in
      let back : 4 * y + 1 - 1 ≡ 4 * y = omega arith in (
        4 * y + 1,
        record {
          least = omega (arith, N.least);
          below = omega arith;
          near = inr (omega arith, rw back h, omega (arith, N.under));
          nearest = fourth (4 * y + 1) (omega arith);
        },
      )
  marked_by Ordering.eq h =
      let B : 4 * y < 2 ^ 55 = sq-lt-back (4 * y) (2 ^ 55) (omega arith) in (
        4 * y,
        record { least = omega (arith, N.least); below = B; near = inl h; nearest = fourth (4 * y) (omega arith) },
      )
  marked_by Ordering.gt h =
      let A : 2 ^ 54 < 4 * y = sq-lt-back (2 ^ 54) (4 * y) (omega arith) in
      let z = y - 1 in
      let odd : (2 * z + 1) * (2 * z + 1) ≡ 4 * (z * z) + 4 * z + 1 = simp ring (omega arith) in
      let half : 2 * y - 1 ≡ 2 * z + 1 = omega arith in
      let above : (2 * z + 1) * (2 * z + 1) ≤ c * 2 ^ 54 = rw half at N.above in
      let square : (2 * (2 * z + 1)) * (2 * (2 * z + 1)) ≡ 4 * ((2 * z + 1) * (2 * z + 1)) = simp ring (omega arith) in
      let back : 4 * y - 1 - 1 ≡ 2 * (2 * z + 1) = omega arith in
      let on : 4 * y - 1 + 1 ≡ 4 * y = omega arith in (
        4 * y - 1,
        record {
          least = omega arith;
          below = omega (arith, N.top);
          near = inr (omega arith, rw back (omega arith), rw on h);
          nearest = fourth (4 * y - 1) (omega arith);
        },
      )

  pub marked : (w : ℕ) × Marked c y w
  marked = marked_by (compare (4 * y * (4 * y)) (c * 2 ^ 56)) (cmp (4 * y * (4 * y)) (c * 2 ^ 56))
