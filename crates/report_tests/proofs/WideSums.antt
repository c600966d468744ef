-- Products that exceed a word, in units of 2^24, and the sums that are compared with them. Assumes nothing.
use mathlib.Core.Path.{◌≡◌, refl, sym, ap, ◌∙◌}
use mathlib.Core.Bool.{Bool, true, false}
use Prim.Native.Nat.{ℕ, ◌+◌, ◌*◌, ◌^◌, ◌/◌, ◌%◌, ◌≤◌, ◌<◌}
use native.Mathlib.Nat.{mul-le-mul, mul-add, mul_assoc, div-add-mod'}
use native.Mathlib.Omega.{arith}
use borrow.Author.Tests.{leb-true, leb-false, le-leb, lt-leb}
use lib.Dec.{leb}

pub square-below : (d : ℕ) → d < 2 ^ 24 → d * d < 2 ^ 48
square-below d h =
    let l : d * d ≤ 16777215 * 16777215 = mul-le-mul {n₂ = 16777215} {m₂ = 16777215} (omega arith) (omega arith) in
    omega arith

pub same_test : (a b m n : ℕ) → (a ≤ b → m ≤ n) → (b < a → n < m) → leb a b ≡ leb m n
same_test a b m n f g = go (leb a b) refl
  where
    go : (t : Bool) → leb a b ≡ t → leb a b ≡ leb m n
    go true e = e ∙ sym (le-leb m n (f (leb-true a b e)))
    go false e = e ∙ sym (lt-leb m n (g (leb-false a b e)))

pub low-alone : (h l s : ℕ) → h ≤ 0 → leb s l ≡ leb s (h * 2 ^ 64 + l)
low-alone h l s z = same_test s l s (h * 2 ^ 64 + l) (λ p. omega arith) (λ p. omega arith)

module _ (n q : ℕ) (few : n ≤ 2 ^ 36) (small : q < 2 ^ 48) where
  pub rest_below : n * (q % 16777216) ≤ 68719476736 * 16777215
  rest_below = mul-le-mul {m₂ = 16777215} few (omega arith)

  pub top_below : n * (q / 16777216) ≤ 68719476736 * 16777215
  top_below = mul-le-mul {m₂ = 16777215} few (omega arith)

  pub product-below : n * q ≤ 68719476736 * 281474976710655
  product-below = mul-le-mul {m₂ = 281474976710655} few (omega arith)

  pub in-units : n * q ≡ n * (q / 16777216) * 16777216 + n * (q % 16777216)
  in-units =
      ap (λ (x : ℕ). n * x) (sym (div-add-mod' q 16777216)) ∙ mul-add n (q / 16777216 * 16777216) (q % 16777216)
      ∙ ap (λ (x : ℕ). x + n * (q % 16777216)) (sym (mul_assoc n (q / 16777216) 16777216))
