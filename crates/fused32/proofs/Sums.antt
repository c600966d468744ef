-- p + c of two finite f64, as an f64 and as an f32, is one exact sum, rounded. If the f64 is clear or zero, it rounds
-- to the f32. Assumes nothing.
use Rattle.std.proofs.Common.{◌≡◌, ℕ, ◌+◌, ◌*◌, ◌%◌, ◌^◌, ◌<◌, ◌≤◌, Bool, true, false, cond, T, sym, ap, ◌∙◌, subst}
use Rattle.std.proofs.Common.{inl, inr, lt_of_lt_of_le, eq-zero-or-pos, mul-pos, arith, pow_pos, ltb-false}
use lib.Ieee.{Float, Format, binary32, binary64, round, add, to_bits, of_bits, lt, below}
use lib.Ieee.Exact.{HasValue}
use lib.Ieee.Scale.{finite}
use Rattle.fused32.specs.Parts.{Clear, Short, amount}
use Rattle.rounding.specs.Operations.{narrowed}
use Rattle.fused32.proofs.Compared.{zero-value}
use Rattle.fused32.proofs.Infinite.{as-infinite, under_top}
use Rattle.fused32.proofs.Neighbours.{as-clear, as-exact, bits, j-le, rounds}
use Rattle.rounding.proofs.Adding.{add-units}
use Rattle.rounding.proofs.Comparing.{lt-units}
use Rattle.rounding.proofs.NumberOrders.{clash, lt-or-ge}
use Rattle.rounding.proofs.Patterns.{rest-is}
use Rattle.rounding.proofs.Sums.{sum_is, sum-sign, sum-size}
use Rattle.rounding.proofs.Values.{value-finite}
use Rattle.rounding.proofs.WholeUnits.{exact-short, near, near-ge, near_le, places}

module _ (p c : Float) (P : Short p) (C : Short c) where
  abbrev pub S : Bool
  S = sum-sign P.sign (amount P) C.sign (amount C)

  abbrev pub v : ℕ
  v = sum-size P.sign (amount P) C.sign (amount C)

  abbrev pub G : ℕ
  G = near binary64 v * 2 ^ places binary64 v

  pub sum-rounds : (f : Format) → add f p c ≡ round f S v (2 ^ 1074)
  sum-rounds f =
      add-units f p c P.sign C.sign (amount P) (amount C) (2 ^ 1074) (pow_pos 1074) P.value C.value
      ∙ sum_is f P.sign (amount P) C.sign (amount C) (2 ^ 1074)

  narrow-sum : narrowed (round binary64 S v (2 ^ 1074)) ≡ round binary32 S v (2 ^ 1074)
      → narrowed (add binary64 p c) ≡ add binary32 p c
  narrow-sum e = ap narrowed (sum-rounds binary64) ∙ e ∙ sym (sum-rounds binary32)

  -- ---- a finite sum
  module _ (fine : G < 2 ^ (1074 + 1024)) where
    pub s-value : HasValue (add binary64 p c) S G (2 ^ 1074)
    s-value = subst (λ (z : Float). HasValue z S G (2 ^ 1074)) (sym (sum-rounds binary64)) (rounds v fine S)

    s-bits : to_bits binary64 (add binary64 p c)
        ≡ cond S 0x8000_0000_0000_0000 0 + (places binary64 v * 2 ^ 52 + near binary64 v)
    s-bits = ap (to_bits binary64) (sum-rounds binary64) ∙ bits v fine S

    pub zero-to : lt (of_bits binary64 0) (add binary64 p c) ≡ below false 0 S G
    zero-to = lt-units (of_bits binary64 0) (add binary64 p c) false S 0 G (2 ^ 1074) (pow_pos 1074) zero-value s-value

    pub to-zero : lt (add binary64 p c) (of_bits binary64 0) ≡ below S G false 0
    to-zero = lt-units (add binary64 p c) (of_bits binary64 0) S false G 0 (2 ^ 1074) (pow_pos 1074) s-value zero-value

    clear-finite : Clear (add binary64 p c) → narrowed (add binary64 p c) ≡ add binary32 p c
    clear-finite h =
        let m = places binary64 v * 2 ^ 52 + near binary64 v in
        let k = h (value-finite (add binary64 p c) S G (2 ^ 1074) s-value) in
        let M : m < 2 ^ 63 = omega (arith, j-le v fine, near_le binary64 v) in
        narrow-sum (as-clear v fine S
        (subst (λ (z : ℕ). 0x3810_0000_0000_0000 ≤ z) (ap (λ (z : ℕ). z % 2 ^ 63) s-bits ∙ rest-is binary64 S m M)
        k.0)
        (λ e. k.1 (ap (λ (z : ℕ). z % 2 ^ 29) s-bits ∙ lower S m ∙ e)))
      where
        lower : (s : Bool) (m : ℕ) → (cond s 0x8000_0000_0000_0000 0 + m) % 2 ^ 29 ≡ m % 2 ^ 29
        lower true m = omega arith
        lower false m = omega arith

    -- A sum that is zero rounds to the same zero.
    pub zero-sum : lt (of_bits binary64 0) (add binary64 p c) ≡ false
        → lt (add binary64 p c) (of_bits binary64 0) ≡ false
        → narrowed (add binary64 p c) ≡ add binary32 p c
    zero-sum a b =
        narrow-sum (as-exact v fine S (exact-short binary64 v
        (elim (eq-zero-or-pos (places binary64 v)) [ inl e ↦ e | inr h ↦ absurd (full h) ])))
      where
        none : (s : Bool) → below false 0 s G ≡ false → below s G false 0 ≡ false → G ≤ 0
        none true x y = omega (arith, ltb-false 0 (G + 0) y)
        none false x y = ltb-false 0 G x

        full : 0 < places binary64 v → ⊥
        full h =
            clash 0 G (mul-pos (lt_of_lt_of_le (pow_pos 52) (near-ge binary64 v h)) (pow_pos (places binary64 v)))
            (none S (sym zero-to ∙ a) (sym to-zero ∙ b))

  pub sum-under : T (finite (add binary64 p c)) → G < 2 ^ (1074 + 1024)
  sum-under h = under_top v S (subst (λ (z : Float). T (finite z)) (sum-rounds binary64) h)

  -- ---- a clear sum
  pub clear-sum : Clear (add binary64 p c) → narrowed (add binary64 p c) ≡ add binary32 p c
  clear-sum h =
      elim (lt-or-ge G (2 ^ (1074 + 1024))) [ inl l ↦ clear-finite l h | inr g ↦ narrow-sum (as-infinite v S g) ]
