-- The cases of `odd_sum`. Its tests show on which side of x + y the f64 sum s lies, and so which f64 rounds to an f32
-- as x + y does. Assumes nothing.
use Rattle.std.proofs.Common.{◌≡◌, ℕ, ◌+◌, ◌-◌, ◌*◌, ◌%◌, ◌^◌, ◌<◌, ◌≤◌, Bool, true, false, not, T, sym, ap, ◌∙◌, subst}
use Rattle.std.proofs.Common.{inl, inr, zero-le, le_of_eq, lt_of_lt_of_le, lt_of_le_of_lt, eq-zero-or-pos}
use Rattle.std.proofs.Common.{eq-or-lt_of_le, zero-add, zero-mul, arith, pow_pos, pow-add, ltb-false, ltb-true}
use Rattle.std.proofs.Common.{eqb-true}
use lib.Arith.{lt_of_le-ne}
use lib.Bits.{bit_and, and_mask}
use lib.Ieee.{Float, Format, binary32, binary64, round, add, to_bits, of_bits, sub, lt, eq, is_nan}
use lib.Ieee.Exact.{HasValue}
use lib.Ieee.Scale.{finite}
use borrow.Author.Tests.{eqb-false}
use Rattle.fused32.specs.Parts.{Ordered, Short, SumOf, amount}
use Rattle.rounding.specs.Operations.{narrowed}
use Rattle.fused32.proofs.Compared.{Tests}
use Rattle.fused32.proofs.Infinite.{under_top}
use Rattle.fused32.proofs.Neighbours.{as-down, as-exact, as-odd, as-up, bits, j-le, rounds}
use Rattle.fused32.proofs.ExactSums.{sum-total, tests, total}
use Rattle.rounding.proofs.Adding.{add-units}
use Rattle.rounding.proofs.NumberOrders.{bit, clash, pow_lt_back}
use Rattle.rounding.proofs.Values.{value-no-nan}
use Rattle.rounding.proofs.WholeUnits.{near, near_le, places}

module _ (x y s : Float) (O : Ordered x y) (E : SumOf x y s) where
  abbrev p : Short x
  p = O.large

  abbrev q : Short y
  q = O.small

  abbrev w : ℕ
  w = total q.sign (amount p) (amount q)

  abbrev Q : ℕ
  Q = near binary64 w

  abbrev j : ℕ
  j = places binary64 w

  x-value : HasValue x false (amount p) (2 ^ 1074)
  x-value = subst (λ (b : Bool). HasValue x b (amount p) (2 ^ 1074)) O.plus p.value

  sum-is-total : (f : Format) → add f x y ≡ round f false w (2 ^ 1074)
  sum-is-total f =
      add-units f x y false q.sign (amount p) (amount q) (2 ^ 1074) (pow_pos 1074) x-value q.value
      ∙ sum-total f q.sign (amount p) (amount q) (2 ^ 1074) O.order

  s-is : s ≡ round binary64 false w (2 ^ 1074)
  s-is = E.is ∙ sum-is-total binary64

  fine : Q * 2 ^ j < 2 ^ (1074 + 1024)
  fine = under_top w false (subst (λ (z : Float). T (finite z)) s-is E.bounded)

  s-value : HasValue s false (Q * 2 ^ j) (2 ^ 1074)
  s-value = subst (λ (z : Float). HasValue z false (Q * 2 ^ j) (2 ^ 1074)) (sym s-is) (rounds w fine false)

  n-is : to_bits binary64 s ≡ j * 2 ^ 52 + Q
  n-is = ap (to_bits binary64) s-is ∙ bits w fine false ∙ zero-add (j * 2 ^ 52 + Q)

  known : Tests s x y (Q * 2 ^ j) w
  known = tests p q O.order x-value s q.sign q.value s-value fine

  -- ---- what is returned
  pub same_code : eq (sub binary64 s x) y ≡ true → narrowed s ≡ add binary32 x y
  same_code e =
      ap narrowed s-is
      ∙ as-exact w fine false (eqb-true (Q * 2 ^ j) w (sym known.same ∙ e))
      ∙ sym (sum-is-total binary32)

  last : bit_and (to_bits binary64 s) 1 ≡ Q % 2
  last = ap (λ (z : ℕ). bit_and z 1) n-is ∙ and_mask (j * 2 ^ 52 + Q) 1 ∙ even-part j Q
    where
      even-part : (j Q : ℕ) → (j * 2 ^ 52 + Q) % 2 ≡ Q % 2
      even-part j Q = omega arith

  pub odd_code : bit_and (to_bits binary64 s) 1 ≡ 1 → narrowed s ≡ add binary32 x y
  odd_code e = ap narrowed s-is ∙ as-odd w fine false (sym last ∙ e) ∙ sym (sum-is-total binary32)

  even : (bit_and (to_bits binary64 s) 1 ≡ 1 → ⊥) → Q % 2 ≡ 0
  even n = elim (bit Q) [ inl e ↦ e | inr e ↦ absurd (n (last ∙ e)) ]

  pub up-code : (bit_and (to_bits binary64 s) 1 ≡ 1 → ⊥) → lt (sub binary64 s x) y ≡ true
      → narrowed (of_bits binary64 (to_bits binary64 s + 1)) ≡ add binary32 x y
  up-code n l =
      ap (λ (z : ℕ). narrowed (of_bits binary64 (z + 1))) n-is
      ∙ as-up w fine (even n) (ltb-true (Q * 2 ^ j) w (sym known.less ∙ l))
      ∙ sym (sum-is-total binary32)

  beyond : eq (sub binary64 s x) y ≡ false → lt (sub binary64 s x) y ≡ false → w < Q * 2 ^ j
  beyond e l =
      lt_of_le-ne (ltb-false (Q * 2 ^ j) w (sym known.less ∙ l))
      (λ d. eqb-false (Q * 2 ^ j) w (sym known.same ∙ e) (sym d))

  pub down-code : (bit_and (to_bits binary64 s) 1 ≡ 1 → ⊥) → eq (sub binary64 s x) y ≡ false
      → lt (sub binary64 s x) y ≡ false → narrowed (of_bits binary64 (to_bits binary64 s - 1)) ≡ add binary32 x y
  down-code n e l =
      ap (λ (z : ℕ). narrowed (of_bits binary64 (z - 1))) n-is
      ∙ as-down w fine (even n) (beyond e l)
      ∙ sym (sum-is-total binary32)

  -- ---- what the steps need
  pub s-no-nan : T (not (is_nan s))
  s-no-nan = value-no-nan s false (Q * 2 ^ j) (2 ^ 1074) s-value

  pub s-bits : to_bits binary64 s < 0x7ff0_0000_0000_0000
  s-bits = elim (eq-or-lt_of_le (near_le binary64 w)) [
    | inl e ↦ omega (
      arith,
      n-is,
      pow_lt_back (53 + j) 2098 (lt_of_le_of_lt (le_of_eq (pow-add 2 53 j ∙ ap (λ (z : ℕ). z * 2 ^ j) (sym e))) fine),
    )
    | inr l ↦ omega (arith, n-is, j-le w fine)
  ]

  pub some_bits : eq (sub binary64 s x) y ≡ false → lt (sub binary64 s x) y ≡ false → 1 ≤ to_bits binary64 s
  some_bits e l = elim (eq-zero-or-pos Q) [
    | inl z ↦ absurd (clash w 0
        (lt_of_lt_of_le (beyond e l) (le_of_eq (ap (λ (q : ℕ). q * 2 ^ j) z ∙ zero-mul (2 ^ j)))) zero-le)
    | inr h ↦ omega (arith, n-is)
  ]
