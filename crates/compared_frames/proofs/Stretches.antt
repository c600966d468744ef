-- The end of a stretch, computed by quotient and remainder so that no product overflows a word, is k nths of all frames
-- and lies within them. Assumes nothing.
use mathlib.Core.Path.{◌≡◌, sym, ap, ◌∙◌}
use Prim.Native.Nat.{ℕ, ◌+◌, ◌*◌, ◌/◌, ◌%◌, ◌<◌, ◌≤◌}
use native.Mathlib.Nat.{div-add-mod, mul-add, mul_left_comm, mul-add-div, mul-le-mul_right, mod-lt, div-le_of_le-mul}
use native.Mathlib.Omega.{arith}

module _ (frames n k : ℕ) (some : 0 < n) where
  split : k * frames ≡ n * (k * (frames / n)) + k * (frames % n)
  split =
      ap (λ (v : ℕ). k * v) (sym (div-add-mod frames n))
      ∙ mul-add k (n * (frames / n)) (frames % n)
      ∙ ap (λ (v : ℕ). v + k * (frames % n)) (mul_left_comm k n (frames / n))

  pub end_is : k * (frames / n) + k * (frames % n) / n ≡ k * frames / n
  end_is = sym (ap (λ (v : ℕ). v / n) split ∙ mul-add-div some (k * (frames / n)) (k * (frames % n)))

  module _ (before : k < n) where
    pub quotient-small : k * (frames / n) ≤ frames
    quotient-small =
        let l : k ≤ n = omega arith in
        omega (arith, mul-le-mul_right (frames / n) l, div-add-mod frames n)

    pub rest-small : n ≤ 1000 → k * (frames % n) ≤ 1000000
    rest-small h =
        let l : k ≤ 1000 = omega arith in
        omega (arith, mul-le-mul_right (frames % n) l, mod-lt frames some)

    pub sum-small : k * (frames / n) + k * (frames % n) / n ≤ frames
    sum-small =
        let l : k ≤ n = omega arith in
        rw end_is (div-le_of_le-mul n (mul-le-mul_right frames l))
