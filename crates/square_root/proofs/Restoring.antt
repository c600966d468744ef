-- The restoring steps of `root_digits`. Each brings down two digits and finds one; after 55 steps the root is there,
-- and its last digit is odd if it is not exact. Assumes nothing.
use Rattle.std.proofs.Common.{◌≡◌, ℕ, ◌+◌, ◌-◌, ◌*◌, ◌/◌, ◌%◌, ◌^◌, ◌<◌, ◌≤◌, cond, leb, sym, ap, ◌∙◌, inl, inr}
use Rattle.std.proofs.Common.{zero-le, le_trans, le_of_eq, lt_of_lt_of_le, lt_of_le_of_lt, mul-le-mul_right, mod-lt}
use Rattle.std.proofs.Common.{mul_assoc, eq-zero-or-pos, le_antisymm, pow-suc, mul-div_cancel, add-one, arith, pow_pos}
use Rattle.std.proofs.Common.{pow_mono, pow-add, eq-eqb, ne_eqb, le-leb}
use mathlib.Core.Logic.{dite}
use native.Mathlib.Decide.{dec_le}
use borrow.Author.Tests.{lt-leb}
use lib.Arith.{digits_div}
use Rattle.float_digits.specs.Pattern.{with_sticky}
use Rattle.square_root.specs.Digits.{NearRoot, RootDigits}
use Rattle.square_root.proofs.Squares.{ring, sq-mono, sq-lt-back}

-- The part of z * 4 ^ i from 2 ^ 64 on is s * s + r, and y is the rest.
pub record Down (z s r y i : ℕ) : Type 0 where
  pub last : i ≤ 55
  pub word : y < 2 ^ 64
  pub short : s < 2 ^ i
  pub rest : r ≤ 2 * s
  pub whole : (s * s + r) * 2 ^ 64 + y ≡ z * 4 ^ i

pub start : (z : ℕ) → z < 2 ^ 64 → Down z 0 0 z 0
start z h = record { last = zero-le; word = h; short = omega arith; rest = zero-le; whole = omega arith }

pub short-55 : {z s r y i : ℕ} → Down z s r y i → s < 2 ^ 55
short-55 d = lt_of_lt_of_le d.short (pow_mono d.last)

-- ---- one step: a has been brought down, and a digit 1 takes 4 s + 1 of it
module _ (s a d : ℕ) (A : a ≤ 8 * s + 3) (e : d ≡ cond (leb (s * 4 + 1) a) 1 0) where
  pub stepped : (d ≤ 1) × (d * (s * 4 + 1) ≤ a) × (a - d * (s * 4 + 1) ≤ 2 * (s * 2 + d))
      × ((s * 2 + d) * (s * 2 + d) + (a - d * (s * 4 + 1)) ≡ 4 * (s * s) + a)
  stepped =
      let odd : (s * 2 + 1) * (s * 2 + 1) ≡ 4 * (s * s) + 4 * s + 1 = simp ring (omega arith) in
      let even : (s * 2 + 0) * (s * 2 + 0) ≡ 4 * (s * s) = simp ring (omega arith) in
      dite (dec_le (s * 4 + 1) a)
      (λ l.
      let one : d ≡ 1 = e ∙ rw (le-leb (s * 4 + 1) a l) in
      rw one (omega arith, omega arith, omega arith, omega arith))
      (λ g.
      let none : d ≡ 0 = e ∙ rw (lt-leb (s * 4 + 1) a (omega arith)) in
      rw none (omega arith, omega arith, omega arith, omega arith))

pub next : (z s r y i d : ℕ) → i < 55 → d ≡ cond (leb (s * 4 + 1) (r * 4 + y / 2 ^ 62)) 1 0 → Down z s r y i
    → Down z (s * 2 + d) (r * 4 + y / 2 ^ 62 - d * (s * 4 + 1)) (y * 2 ^ 2 % 2 ^ 64) (i + 1)
next z s r y i d I e D =
    let w = D.word in
    let t = D.rest in
    let f = stepped s (r * 4 + y / 2 ^ 62) d (omega arith) e in
    let two : 2 ^ (i + 1) ≡ 2 ^ i * 2 = ap (λ (x : ℕ). 2 ^ x) (add-one i) ∙ pow-suc 2 i in
    let four : z * 4 ^ (i + 1) ≡ z * 4 ^ i * 4 =
    ap (λ (x : ℕ). z * x) (ap (λ (x : ℕ). 4 ^ x) (add-one i) ∙ pow-suc 4 i) ∙ sym (mul_assoc z (4 ^ i) 4) in
    record {
      last = omega arith;
      word = mod-lt (y * 2 ^ 2) (pow_pos 64);
      short = omega (arith, D.short);
      rest = f.2;
      whole = ap (λ (x : ℕ). x * 2 ^ 64 + y * 2 ^ 2 % 2 ^ 64) f.3 ∙ omega (arith, D.whole);
    }

-- ---- the end
sq-gt : (s r a : ℕ) → s * s + r ≡ a → r ≤ 2 * s → a < (s + 1) * (s + 1)
sq-gt s r a e h =
    let q : (s + 1) * (s + 1) ≡ s * s + 2 * s + 1 = simp ring (omega arith) in
    omega arith

sticks : (a s r : ℕ) → s * s + r ≡ a → r ≤ 2 * s
    → (s ≤ with_sticky s r) × (with_sticky s r ≤ s + (1 - s % 2)) × NearRoot a (with_sticky s r)
sticks a s r e h = elim (eq-zero-or-pos r) [
  | inl z ↦ rw (eq-eqb r 0 z) (omega arith, omega arith, inl (omega arith))
  | inr p ↦
      let w = s + (1 - s % 2) in
      rw (ne_eqb r 0 (omega arith)) (
        omega arith,
        omega arith,
        inr (
          omega arith,
          lt_of_le_of_lt (sq-mono {a = w - 1} {b = s} (omega arith)) (omega arith),
          lt_of_lt_of_le (sq-gt s r a e h) (sq-mono {a = s + 1} {b = w + 1} (omega arith)),
        ),
      )
]

pub found : (z s r y i : ℕ) → 2 ^ 62 ≤ z → 55 ≤ i → Down z s r y i → RootDigits z (with_sticky s r)
found z s r y i Z I D =
    let whole : (s * s + r) * 2 ^ 64 + y ≡ z * 2 ^ 46 * 2 ^ 64 =
    D.whole ∙ ap (λ (x : ℕ). z * 4 ^ x) (le_antisymm D.last I) ∙ sym (mul_assoc z (2 ^ 46) (2 ^ 64)) in
    let e : s * s + r ≡ z * 2 ^ 46 =
    sym (digits_div (s * s + r) D.word)
    ∙ ap (λ (x : ℕ). x / 2 ^ 64) whole
    ∙ mul-div_cancel (z * 2 ^ 46) (pow_pos 64) in
    let f = sticks (z * 2 ^ 46) s r e D.rest in
    let least : 2 ^ 54 < s + 1 =
    sq-lt-back (2 ^ 54) (s + 1)
    (lt_of_le_of_lt (le_trans (le_of_eq (pow-add 2 62 46)) (mul-le-mul_right (2 ^ 46) Z))
    (sq-gt s r (z * 2 ^ 46) e D.rest)) in
    record { least = omega arith; below = lt_of_le_of_lt f.1 (small s (short-55 D)); near = f.2 }
  where
    small : (s : ℕ) → s < 2 ^ 55 → s + (1 - s % 2) < 2 ^ 55
    small s h = omega arith
