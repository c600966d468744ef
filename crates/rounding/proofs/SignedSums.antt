-- The sign and the size that `sum` rounds are those of the exact sum, by the cases of the signs. A sum has only one
-- sign and one size, also at zero. Assumes nothing.
use mathlib.Core.Path.{◌≡◌, refl, sym, ◌∙◌}
use mathlib.Core.Bool.{Bool, true, false, not, ◌&&◌, beq, cond}
use Prim.Native.Nat.{ℕ, ◌+◌, ◌-◌, ◌*◌, ◌≤◌, ◌<◌}
use native.Mathlib.Nat.{le_of_lt, add-mul, mul-pos}
use native.Mathlib.Omega.{arith}
use lib.Dec.{T, ltb, ltb→lt, nltb→le}
use Rattle.rounding.specs.Nearest.{SumOf}
use Rattle.rounding.proofs.Sums.{sum-sign, sum-size}
use Rattle.rounding.proofs.NumberOrders.{less}

-- The same holds for k times each of them.
pub sum-adds : (s : Bool) (a : ℕ) (t : Bool) (b k : ℕ) → 0 < k
    → SumOf (sum-sign s a t b) (sum-size s a t b * k) s (a * k) t (b * k)
sum-adds s a t b k K = go s t (ltb a b) (ltb→lt a b) (nltb→le a b) (ltb b a) (ltb→lt b a) (nltb→le b a)
  where
    some : (x y : ℕ) → x < y → (y - x) * k ≡ 0 → ⊥
    some x y h e =
        let p : 0 < (y - x) * k = mul-pos (omega arith) K in
        omega arith

    go : (s t y : Bool) → (T y → a < b) → (T (not y) → b ≤ a) → (z : Bool) → (T z → b < a) → (T (not z) → a ≤ b)
        → SumOf (cond (beq s t) s (cond y t (s && z))) (cond (beq s t) (a + b) (cond y (b - a) (a - b)) * k) s
        (a * k) t (b * k)
    go false false y h i z j l = record { adds = omega (arith, add-mul a b k); sign = λ _. refl }
    go true true y h i z j l = record { adds = omega (arith, add-mul a b k); sign = λ _. refl }
    go false true true h i z j l =
        record { adds = omega (arith, less a b k (le_of_lt (h tt))); sign = λ e. absurd (some a b (h tt) e) }
    go false true false h i z j l = record { adds = omega (arith, less b a k (i tt)); sign = λ _. refl }
    go true false true h i z j l = record { adds = omega (arith, less a b k (le_of_lt (h tt))); sign = λ _. refl }
    go true false false h i true j l =
        record { adds = omega (arith, less b a k (i tt)); sign = λ e. absurd (some b a (j tt) e) }
    go true false false h i false j l =
        record { adds = omega (arith, less b a k (i tt), less a b k (l tt)); sign = λ _. refl }

-- A sum has only one sign and one size.
pub sum_one : (S Z : Bool) (v w : ℕ) (s t : Bool) (a b : ℕ) → SumOf S v s a t b → SumOf Z w s a t b → (S ≡ Z) × (v ≡ w)
sum_one S Z v w s t a b h k =
    go S Z (cond s a 0 + cond t b 0) (cond s 0 a + cond t 0 b) h.adds k.adds h.sign k.sign
  where
    go : (S Z : Bool) (m p : ℕ) → cond S 0 v + m ≡ cond S v 0 + p → cond Z 0 w + m ≡ cond Z w 0 + p
        → (v ≡ 0 → S ≡ (s && t)) → (w ≡ 0 → Z ≡ (s && t)) → (S ≡ Z) × (v ≡ w)
    go true true m p x y i j = (refl, omega arith)
    go false false m p x y i j = (refl, omega arith)
    go true false m p x y i j = (i (omega arith) ∙ sym (j (omega arith)), omega arith)
    go false true m p x y i j = (i (omega arith) ∙ sym (j (omega arith)), omega arith)
