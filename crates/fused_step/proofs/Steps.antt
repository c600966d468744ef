-- What each path of a step gives, for an f64 sum s of the exact product and an f64: the fast path, an exact zero, and
-- the sum rounded once. Assumes nothing.
use Rattle.std.proofs.Common.{◌≡◌, ℕ, ◌+◌, ◌^◌, Bool, true, false, not, ◌&&◌, T, eqb, sym, refl, ap, ◌∙◌, subst, inl}
use Rattle.std.proofs.Common.{inr, le_of_eq, lt_of_lt_of_le, eq-zero-or-pos, mul-pos, pow_pos, eqb-true}
use lib.Bits.{bit_and}
use lib.Ieee.{Float, nan, inf, fin, binary32, binary64, round, add, mul, fits, to_bits, of_bits, is_nan, eq}
use lib.Ieee.Fits.{add-fits, mul-fits}
use lib.Ieee.Scale.{finite}
use Rattle.rounding.specs.Operations.{narrowed, fused}
use Rattle.rounding.proofs.Comparing.{eq-units}
use Rattle.rounding.proofs.NumberOrders.{clash}
use Rattle.rounding.proofs.Sums.{round-zero}
use Rattle.rounding.proofs.WholeUnits.{exact-short, near-ge, places}
use Rattle.fused32.specs.Parts.{Short, Clear}
use Rattle.fused32.proofs.Compared.{zero-value}
use Rattle.fused32.proofs.SumCases.{both, clear-code}
use Rattle.fused32.proofs.Parts.{short, fused-is}
use Rattle.fused32.proofs.Sums.{S, v, G, s-value, sum-rounds, sum-under}
use Rattle.fused_step.specs.Steps.{Plain}
use Rattle.fused_step.proofs.QuickPattern.{normal, no-midpoint, plain-cut}

-- ---- a zero sum is exact: it is a zero in every format, of one sign
module _ (p c : Float) (P : Short p) (C : Short c) (bounded : T (finite (add binary64 p c)))
    (z : eq (add binary64 p c) (of_bits binary64 0) ≡ true) where
  none : G p c P C ≡ 0
  none =
      eqb-true (G p c P C) 0
      (front (eqb (G p c P C) 0) _
      (sym (eq-units (add binary64 p c) (of_bits binary64 0) (S p c P C) false (G p c P C) 0 (2 ^ 1074)
      (pow_pos 1074) (s-value p c P C (sum-under p c P C bounded)) zero-value)
      ∙ z))
    where
      front : (a b : Bool) → (a && b) ≡ true → a ≡ true
      front true b h = refl
      front false b h = h

  no_size : v p c P C ≡ 0
  no_size = elim (eq-zero-or-pos (places binary64 (v p c P C))) [
    | inl e ↦ sym (exact-short binary64 (v p c P C) e) ∙ none
    | inr h ↦ absurd (clash 0 (G p c P C)
        (mul-pos (lt_of_lt_of_le (pow_pos 52) (near-ge binary64 (v p c P C) h)) (pow_pos (places binary64 (v p c P C))))
        (le_of_eq none))
  ]

  zero-sum : add binary64 p c ≡ add binary32 p c
  zero-sum =
      sum-rounds p c P C binary64
      ∙ ap (λ (n : ℕ). round binary64 (S p c P C) n (2 ^ 1074)) no_size
      ∙ round-zero binary64 (S p c P C) (2 ^ 1074) (pow_pos 1074)
      ∙ sym (sum-rounds p c P C binary32
      ∙ ap (λ (n : ℕ). round binary32 (S p c P C) n (2 ^ 1074)) no_size
      ∙ round-zero binary32 (S p c P C) (2 ^ 1074) (pow_pos 1074))

-- Only a finite value equals a zero.
zero-finite : (x : Float) → eq x (of_bits binary64 0) ≡ true → T (finite x)
unfolding eq of_bits
zero-finite nan h = absurd (subst T (sym h) tt)
zero-finite (inf s) h = absurd (subst T (sym h) tt)
zero-finite (fin s m e) h = tt

module _ (x c sum s : Float) (hx : T (fits binary32 x)) (hc : T (fits binary32 c)) (hs : T (fits binary64 sum))
    (is : s ≡ add binary64 (mul binary64 x c) sum) where
  abbrev p : Float
  p = mul binary64 x c

  once : add binary32 p sum ≡ fused binary32 x c sum
  once = fused-is x c sum hx hc

  pub zero-step : eq s (of_bits binary64 0) ≡ true → s ≡ fused binary32 x c sum
  zero-step z =
      let e : eq (add binary64 p sum) (of_bits binary64 0) ≡ true = rw is at z in
      let b = zero-finite (add binary64 p sum) e in
      let f = both p sum b in
      is ∙ zero-sum p sum (short p (mul-fits binary64 x c) f.0) (short sum hs f.1) b e ∙ once

  pub plain_step : T (not (is_nan s)) → Plain (to_bits binary64 s + 0x1000_0000)
      → of_bits binary64 (bit_and (to_bits binary64 s + 0x1000_0000) 0xffff_ffff_e000_0000) ≡ fused binary32 x c sum
  plain_step number h =
      let held : T (fits binary64 s) = subst (λ (z : Float). T (fits binary64 z)) (sym is) (add-fits binary64 p sum) in
      plain-cut s held number h
      ∙ ap narrowed is
      ∙ clear-code p sum (mul-fits binary64 x c) hs
      (subst Clear is (λ _. (normal s held number h, no-midpoint s held number h)))
      ∙ once
