-- v units rounded to a finite f64. If that is exact, has an odd last digit or is clear, it rounds to an f32 as v does;
-- otherwise its neighbour towards v does, which is odd. Assumes nothing.
use Rattle.std.proofs.Common.{◌≡◌, ℕ, suc, ◌+◌, ◌-◌, ◌*◌, ◌%◌, ◌^◌, ◌<◌, ◌≤◌, Bool, false, cond, ◌⊎◌, sym, ap, ◌∙◌}
use Rattle.std.proofs.Common.{subst, inl, inr, le_trans, le_of_eq, le_refl, lt_of_lt_of_le, lt_of_le_of_lt, le_of_lt}
use Rattle.std.proofs.Common.{mul-le-mul_right, suc-mul, eq-zero-or-pos, lt_of_mul-lt-mul_right, eq-or-lt_of_le}
use Rattle.std.proofs.Common.{mul-le-mul_left, mul-lt-mul_of_pos_right, zero-add, arith, lit<, lit≤, pow_pos, pow_mono}
use Rattle.std.proofs.Common.{pow-add}
use native.Mathlib.Nat.{two-pow-succ}
use native.Mathlib.Nat.{le-suc}
use lib.Ieee.{binary32, binary64, units, round, to_bits, of_bits}
use lib.Ieee.Exact.{HasValue, units_val}
use Rattle.rounding.specs.Operations.{narrowed}
use Rattle.fused32.proofs.SecondRounding.{again-normal, again-odd}
use Rattle.narrowing.proofs.Narrowed.{narrowed-value}
use Rattle.rounding.proofs.NumberOrders.{pow_lt_back}
use Rattle.rounding.proofs.Pack.{pack}
use Rattle.rounding.proofs.Units.{up-hid}
use Rattle.rounding.proofs.WholeUnits.{exact-short, near, near-ge, near_le, places, rounded-bits, rounded-value, v-ge}
use Rattle.rounding.proofs.WholeUnits.{v-lt}
use Rattle.rounding.proofs.WithinHalfDivisor.{closest-near}

-- What a pattern j * 2 ^ 52 + Q shows of j and of Q.
normal : (j Q : ℕ) → Q < 2 ^ 53 → 0x3810_0000_0000_0000 ≤ j * 2 ^ 52 + Q → 896 ≤ j
normal j Q h k = omega arith

lower : (j Q : ℕ) → Q % 2 ^ 29 ≡ 2 ^ 28 → (j * 2 ^ 52 + Q) % 2 ^ 29 ≡ 2 ^ 28
lower j Q h = omega arith

module _ (v : ℕ) (bound : near binary64 v * 2 ^ places binary64 v < 2 ^ (1074 + 1024)) where
  abbrev j : ℕ
  j = places binary64 v

  abbrev Q : ℕ
  Q = near binary64 v

  abbrev u : ℕ
  u = 2 ^ j

  pub j-le : j ≤ 2045
  j-le = elim (eq-zero-or-pos j) [
    | inl e ↦ omega arith
    | inr h ↦ omega (
      arith,
      pow_lt_back (52 + j) 2098
          (lt_of_le_of_lt (le_trans (le_of_eq (pow-add 2 52 j)) (mul-le-mul_right u (near-ge binary64 v h))) bound),
    )
  ]

  under : (q : ℕ) → q < 2 ^ 53 → q * u < 2 ^ (1074 + 1024)
  under q h =
      lt_of_lt_of_le (mul-lt-mul_of_pos_right h (pow_pos j))
      (le_trans (mul-le-mul_left (2 ^ 53) (pow_mono j-le)) (lit≤ tt))

  off-lo : Q * u < v + u
  off-lo = omega (arith, (closest-near v u (pow_pos j)).0, pow_pos j)

  off-hi : v < Q * u + u
  off-hi = omega (arith, (closest-near v u (pow_pos j)).1, pow_pos j)

  module _ (s : Bool) where
    pub rounds : HasValue (round binary64 s v (2 ^ 1074)) s (Q * u) (2 ^ 1074)
    rounds = rounded-value binary64 v s bound

    pub bits : to_bits binary64 (round binary64 s v (2 ^ 1074)) ≡ cond s 0x8000_0000_0000_0000 0 + (j * 2 ^ 52 + Q)
    bits = rounded-bits binary64 v s bound

    narrows : narrowed (round binary64 s v (2 ^ 1074)) ≡ round binary32 s (Q * u) (2 ^ 1074)
    narrows = narrowed-value (round binary64 s v (2 ^ 1074)) s (Q * u) (2 ^ 1074) (pow_pos 1074) rounds

    pub as-exact : Q * u ≡ v → narrowed (round binary64 s v (2 ^ 1074)) ≡ round binary32 s v (2 ^ 1074)
    as-exact e = narrows ∙ ap (λ (z : ℕ). round binary32 s z (2 ^ 1074)) e

    pub as-odd : Q % 2 ≡ 1 → narrowed (round binary64 s v (2 ^ 1074)) ≡ round binary32 s v (2 ^ 1074)
    as-odd o = narrows ∙ sym (again-odd s v Q j few (near-ge binary64 v) off-lo off-hi o)
      where
        few : Q < 2 ^ 53
        few = omega (arith, near_le binary64 v)

    -- If Q is 2 ^ 53, the pattern is that of 2 ^ 52 with the next exponent.
    pub as-clear : 0x3810_0000_0000_0000 ≤ j * 2 ^ 52 + Q → ((j * 2 ^ 52 + Q) % 2 ^ 29 ≡ 2 ^ 28 → ⊥)
        → narrowed (round binary64 s v (2 ^ 1074)) ≡ round binary32 s v (2 ^ 1074)
    as-clear ge no-mid = narrows ∙ sym (go (eq-or-lt_of_le (near_le binary64 v)))
      where
        go : (Q ≡ 2 ^ 53) ⊎ (Q < 2 ^ 53) → round binary32 s v (2 ^ 1074) ≡ round binary32 s (Q * u) (2 ^ 1074)
        go (inr l) =
            again-normal s v Q j l (near-ge binary64 v) off-lo off-hi (normal j Q l ge) (λ m. no-mid (lower j Q m))
        go (inl e) =
            let w : u + u ≡ 2 ^ suc j = sym (two-pow-succ j) in
            let b : 2 ^ 52 * 2 ^ suc j ≡ Q * u = up-hid binary64 j ∙ ap (λ (z : ℕ). z * u) (sym e) in
            again-normal s v (2 ^ 52) (suc j) (lit< tt) (λ _. le_refl (2 ^ 52))
            (subst (λ (z : ℕ). z < v + 2 ^ suc j) (sym b)
            (subst (λ (z : ℕ). Q * u < v + z) w (wider (Q * u) v u off-lo)))
            (subst (λ (z : ℕ). v < z + 2 ^ suc j) (sym b)
            (subst (λ (z : ℕ). v < Q * u + z) w (wider v (Q * u) u off-hi)))
            (next j Q e ge) (λ (m : 2 ^ 52 % 2 ^ 29 ≡ 2 ^ 28). no m)
            ∙ ap (λ (z : ℕ). round binary32 s z (2 ^ 1074)) b
          where
            wider : (a b u : ℕ) → a < b + u → a < b + (u + u)
            wider a b u h = omega arith

            next : (j Q : ℕ) → Q ≡ 2 ^ 53 → 0x3810_0000_0000_0000 ≤ j * 2 ^ 52 + Q → 896 ≤ suc j
            next j Q e h = omega arith

            no : 2 ^ 52 % 2 ^ 29 ≡ 2 ^ 28 → ⊥
            no m = omega arith

  -- ---- the neighbours, for a sum that is not below zero
  inexact : (Q * u ≡ v → ⊥) → 0 < j
  inexact n = elim (eq-zero-or-pos j) [ inl e ↦ absurd (n (exact-short binary64 v e)) | inr p ↦ p ]

  neighbour : (q n : ℕ) → n ≡ j * 2 ^ 52 + q → q % 2 ≡ 1 → 2 ^ 52 ≤ q → q < 2 ^ 53 → q * u < v + u → v < q * u + u
      → narrowed (of_bits binary64 n) ≡ round binary32 false v (2 ^ 1074)
  neighbour q n e o ge few lo hi =
      let J : j < 2046 = omega (arith, j-le) in
      ap (λ (z : ℕ). narrowed (of_bits binary64 z)) (e ∙ sym (zero-add (j * 2 ^ 52 + q)))
      ∙ ap narrowed (pack binary64 false q j (le_of_lt few) (λ _. ge) J)
      ∙ narrowed-value (units binary64 false q j) false (q * u) (2 ^ 1074) (pow_pos 1074)
      (units_val binary64 false q j (under q few))
      ∙ sym (again-odd false v q j few (λ _. ge) lo hi o)

  pub as-up : Q % 2 ≡ 0 → Q * u < v
      → narrowed (of_bits binary64 (j * 2 ^ 52 + Q + 1)) ≡ round binary32 false v (2 ^ 1074)
  as-up o l =
      let p : 0 < j = inexact (λ (e : Q * u ≡ v). omega arith) in
      let k : Q < 2 ^ 53 = lt_of_mul-lt-mul_right u (lt_of_lt_of_le l (le_of_lt (v-lt binary64 v))) in
      let w : suc Q * u ≡ Q * u + u = suc-mul Q u in
      neighbour (suc Q) (j * 2 ^ 52 + Q + 1) (omega arith) (omega arith) (le_trans (near-ge binary64 v p) (le-suc Q))
      (omega arith) (omega arith) (omega (arith, off-hi))

  pub as-down : Q % 2 ≡ 0 → v < Q * u
      → narrowed (of_bits binary64 (j * 2 ^ 52 + Q - 1)) ≡ round binary32 false v (2 ^ 1074)
  as-down o l =
      let p : 0 < j = inexact (λ (e : Q * u ≡ v). omega arith) in
      let k : 2 ^ 52 < Q = lt_of_mul-lt-mul_right u (lt_of_le_of_lt (v-ge binary64 v p) l) in
      let q = Q - 1 in
      let e : Q ≡ suc q = omega arith in
      let w : Q * u ≡ q * u + u = ap (λ (z : ℕ). z * u) e ∙ suc-mul q u in
      neighbour q (j * 2 ^ 52 + Q - 1) (omega arith) (omega arith) (omega arith) (omega (arith, near_le binary64 v))
      (omega (arith, off-lo)) (omega arith)
