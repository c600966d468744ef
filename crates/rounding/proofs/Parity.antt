-- If one number is even counted at one place and odd counted at another, it has more digits at the first. Nothing here
-- is about floats. Assumes nothing.
use mathlib.Core.Path.{◌≡◌, sym, ap, ◌∙◌}
use mathlib.Core.Logic.{dite}
use Prim.Native.Nat.{ℕ, suc, ◌+◌, ◌-◌, ◌*◌, ◌/◌, ◌%◌, ◌^◌, ◌≤◌}
use native.Mathlib.Nat.{mul_assoc, mul_right_comm, mul-le-mul_left, eq_of_mul-eq-mul_right}
use native.Mathlib.Decide.{dec_le}
use native.Mathlib.Omega.{arith}
use lib.Pow.{pow-add, pow_pos, pow_mono}
use lib.Ieee.Digits.{back}

pub even-reaches : (q k v j : ℕ) → q % 2 ≡ 0 → v % 2 ≡ 1 → q * 2 ^ k ≡ v * 2 ^ j → v * 2 ≤ q
even-reaches q k v j even odd e = dite (dec_le j k)
    (λ l.
    let a : q * 2 ^ (k - j) ≡ v =
    eq_of_mul-eq-mul_right (2 ^ j) (pow_pos j) (q * 2 ^ (k - j)) v
    (moved q (k - j) j ∙ ap (λ (z : ℕ). q * 2 ^ z) (back k j l) ∙ e) in
    let b : q * 2 ^ (k - j) ≡ q / 2 * 2 ^ (k - j) * 2 =
    ap (λ (z : ℕ). z * 2 ^ (k - j)) halves ∙ mul_right_comm (q / 2) 2 (2 ^ (k - j)) in
    absurd (omega arith))
    (λ g.
    let i = j - suc k in
    let a : q ≡ v * 2 ^ suc i =
    eq_of_mul-eq-mul_right (2 ^ k) (pow_pos k) q (v * 2 ^ suc i)
    (e ∙ ap (λ (z : ℕ). v * 2 ^ z) (omega arith) ∙ sym (moved v (suc i) k)) in
    let b : v * 2 ^ 1 ≤ v * 2 ^ suc i = mul-le-mul_left v (pow_mono {i = 1} {j = suc i} (omega arith)) in
    omega arith)
  where
    moved : (a x y : ℕ) → a * 2 ^ x * 2 ^ y ≡ a * 2 ^ (x + y)
    moved a x y = mul_assoc a (2 ^ x) (2 ^ y) ∙ ap (λ (z : ℕ). a * z) (sym (pow-add 2 x y))

    halves : q ≡ q / 2 * 2
    halves = omega arith
