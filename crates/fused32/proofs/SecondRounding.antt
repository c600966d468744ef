-- v units, and Q * 2 ^ j units that are less than 2 ^ j away, round to the same f32 if Q is odd, or if they are normal
-- as an f32 and no midpoint of two f32. Assumes nothing.
use Rattle.std.proofs.Common.{◌≡◌, ℕ, suc, ◌+◌, ◌-◌, ◌*◌, ◌%◌, ◌^◌, ◌<◌, ◌≤◌, Bool, sym, refl, ap, ◌∙◌, inl, inr}
use Rattle.std.proofs.Common.{le_trans, le_of_eq, lt_of_lt_of_le, lt_irrefl, arith, lit≤, pow_mono, pow-add}
use native.Mathlib.Nat.{two-pow-succ}
use lib.Ieee.{binary32, round}
use Rattle.rounding.proofs.NumberOrders.{lt-or-ge}
use Rattle.rounding.proofs.Sticky.{again, odd-mid}

module _ (s : Bool) (v Q j : ℕ) (few : Q < 2 ^ 53) (lead : 0 < j → 2 ^ 52 ≤ Q) (lo : Q * 2 ^ j < v + 2 ^ j)
    (hi : v < Q * 2 ^ j + 2 ^ j) where
  -- The f32 drops 29 digits of Q.
  pub again-normal : 896 ≤ j → (Q % 2 ^ 29 ≡ 2 ^ 28 → ⊥)
      → round binary32 s v (2 ^ 1074) ≡ round binary32 s (Q * 2 ^ j) (2 ^ 1074)
  again-normal J no-mid =
      again binary32 s v Q j 925 (j - 896) 28 (omega arith) (lit≤ tt) (λ _. lead (omega arith)) few no-mid lo hi

  -- The f32 drops more than 29 digits of Q.
  again-low : j < 896 → Q % 2 ≡ 1 → round binary32 s v (2 ^ 1074) ≡ round binary32 s (Q * 2 ^ j) (2 ^ 1074)
  again-low J o =
      let c = 924 - j in
      let C : 53 ≤ 24 + suc c = omega arith in
      let d : c ≡ suc (c - 1) = omega arith in
      let e : 2 ^ c ≡ 2 ^ (c - 1) + 2 ^ (c - 1) = ap (λ (z : ℕ). 2 ^ z) d ∙ two-pow-succ (c - 1) in
      again binary32 s v Q j 925 0 c (omega arith) (omega arith) (λ (k : 0 < 0). absurd (lt_irrefl 0 k))
      (lt_of_lt_of_le few (le_trans (pow_mono C) (le_of_eq (pow-add 2 24 (suc c)))))
      (λ m. odd-mid Q (2 ^ c) o (omega arith) (ap (λ (z : ℕ). Q % z) (sym (two-pow-succ c)) ∙ m)) lo hi

  pub again-odd : Q % 2 ≡ 1 → round binary32 s v (2 ^ 1074) ≡ round binary32 s (Q * 2 ^ j) (2 ^ 1074)
  again-odd o = elim (lt-or-ge j 896) [ inl l ↦ again-low l o | inr g ↦ again-normal g (odd-mid Q (2 ^ 28) o refl) ]
