-- The exact sum of an x that is not below zero and a y that is no larger in size, with either sign, and the tests of
-- `odd_sum`, which compare it with the f64 nearest to it. Assumes nothing.
use Rattle.std.proofs.Common.{◌≡◌, ℕ, ◌+◌, ◌-◌, ◌*◌, ◌^◌, ◌<◌, ◌≤◌, Bool, true, false, cond, sym, refl, ap, ◌∙◌}
use Rattle.std.proofs.Common.{add-mul, arith, le-ltb}
use lib.Ieee.{Float, Format, binary64, round, sum}
use lib.Ieee.Exact.{HasValue}
use Rattle.fused32.specs.Parts.{Short, amount}
use Rattle.fused32.proofs.Compared.{Tests, tests-minus, tests-plus}
use Rattle.fused32.proofs.Remainder.{left-of-difference, left-of-sum}
use Rattle.fused32.proofs.SumUnit.{whole}
use Rattle.rounding.proofs.NumberOrders.{sub-mul}
use Rattle.rounding.proofs.Sums.{sum_is, sum_like}
use Rattle.rounding.proofs.WholeUnits.{near, places}

-- The exact sum in units.
abbrev pub total : Bool → ℕ → ℕ → ℕ
total t X Y = cond t (X - Y) (X + Y)

pub sum-total : (f : Format) (t : Bool) (X Y L : ℕ) → Y ≤ X → sum f false X t Y L ≡ round f false (total t X Y) L
sum-total f false X Y L o = sum_like f false false X Y L refl
sum-total f true X Y L o =
    sum_is f false X true Y L ∙ ap (λ (z : Bool). round f (cond z true false) (cond z (Y - X) (X - Y)) L) (le-ltb X Y o)

total-le : (t : Bool) (X Y : ℕ) → Y ≤ X → total t X Y ≤ X + X
total-le true X Y o = omega arith
total-le false X Y o = omega arith

-- A unit that divides both parts divides the sum.
divided : {x y : Float} (t : Bool) (p : Short x) (q : Short y) (j : ℕ) → j ≤ p.places → j ≤ q.places
    → (w : ℕ) × (total t (amount p) (amount q) ≡ w * 2 ^ j)
divided t p q j a b =
    go t (p.digits * 2 ^ (p.places - j)) (q.digits * 2 ^ (q.places - j)) (whole p.digits p.places j a)
    (whole q.digits q.places j b)
  where
    go : (t : Bool) (m n : ℕ) → amount p ≡ m * 2 ^ j → amount q ≡ n * 2 ^ j
        → (w : ℕ) × (total t (amount p) (amount q) ≡ w * 2 ^ j)
    go true m n e f =
        (m - n, ap (λ (z : ℕ). z - amount q) e ∙ ap (λ (z : ℕ). m * 2 ^ j - z) f ∙ sym (sub-mul m n (2 ^ j)))
    go false m n e f =
        (m + n, ap (λ (z : ℕ). z + amount q) e ∙ ap (λ (z : ℕ). m * 2 ^ j + z) f ∙ sym (add-mul m n (2 ^ j)))

module _ {x y : Float} (p : Short x) (q : Short y) (o : amount q ≤ amount p)
    (h : HasValue x false (amount p) (2 ^ 1074)) where
  abbrev v : Bool → ℕ
  v t = total t (amount p) (amount q)

  abbrev G : Bool → ℕ
  G t = near binary64 (v t) * 2 ^ places binary64 (v t)

  pub tests : (s : Float) (t : Bool) → HasValue y t (amount q) (2 ^ 1074) → HasValue s false (G t) (2 ^ 1074)
      → G t < 2 ^ (1074 + 1024) → Tests s x y (G t) (v t)
  tests s t k g fine = go t k g fine (total-le t (amount p) (amount q) o)
    where
      go : (t : Bool) → HasValue y t (amount q) (2 ^ 1074) → HasValue s false (G t) (2 ^ 1074) → G t < 2 ^ (1074 + 1024)
          → v t ≤ amount p + amount p → Tests s x y (G t) (v t)
      go true k g fine le =
          let r = left-of-difference p q o (v true) le (divided true p q) refl in
          tests-minus s x y (G true) (amount p) (amount q) fine p.bounded g h k o r.0 r.1
      go false k g fine le =
          let r = left-of-sum p q o (v false) le (divided false p q) refl in
          tests-plus s x y (G false) (amount p) (amount q) fine p.bounded g h k r.0 r.1
