-- The bias and the ends, by the pattern of 2 ^ (e + 29), where h is the sign and the exponent field of 2 ^ e. Each is
-- the one f64 of its size. Assumes nothing.
use mathlib.Core.Path.{◌≡◌, sym, ap, ◌∙◌, subst}
use mathlib.Core.Bool.{Bool, true, false, not, cond}
use Prim.Native.Nat.{ℕ, suc, ◌+◌, ◌-◌, ◌*◌, ◌/◌, ◌%◌, ◌^◌, ◌≤◌, ◌<◌}
use native.Mathlib.Nat.{two-pow-succ}
use native.Mathlib.Omega.{arith}
use lib.Dec.{T, leb}
use lib.Pow.{pow_pos}
use lib.Ieee.{Float, binary64, round, of_bits, nan_bits}
use lib.Ieee.Bits.{of_bits-fits}
use lib.Ieee.Exact.{HasValue}
use borrow.Author.Tests.{lt-leb, le-leb}
use Rattle.rounding.proofs.RoundsToItself.{round-own}
use Rattle.rounding.proofs.Patterns.{rest-no-nan}
use Rattle.narrowing.proofs.Patterns.{count, exponent, value}
use Rattle.biased_sum.specs.declared.Ends.{Ends}
use Rattle.biased_sum.specs.Biased.{digit, bias-of, near_of, far-of}
use Rattle.biased_sum.specs.Beginning.{ends_for}
use Rattle.biased_sum.proofs.Grid.{L}

abbrev ends : Float → Float → Float → Ends
ends a b c = record { bias = a; low = b; high = c }

same_ends : {a b c d e f : Float} → a ≡ d → b ≡ e → c ≡ f → ends a b c ≡ ends d e f
same_ends {a} {b} {c} {d} {e} {f} p q r =
    ap (λ (z : Float). ends z b c) p ∙ ap (λ (z : Float). ends d z c) q ∙ ap (λ (z : Float). ends d e z) r

-- The value q * 2 ^ (x - 1), for the pattern with the field x.
at : (s : Bool) (r q x A : ℕ) → r < 0x7ff0_0000_0000_0000 → r / 2 ^ 52 ≡ suc x → r ≡ x * 2 ^ 52 + q → q * 2 ^ x ≡ A
    → HasValue (of_bits binary64 (cond s 0x8000_0000_0000_0000 0 + r)) s A L
at s r q x A fine e p a =
    let f : exponent r ≡ x = omega arith in
    let g : count r ≡ q = omega arith in
    subst (λ (z : ℕ). HasValue (of_bits binary64 (cond s 0x8000_0000_0000_0000 0 + r)) s z L)
    (ap (λ (z : ℕ). z * 2 ^ exponent r) g ∙ ap (λ (z : ℕ). q * 2 ^ z) f ∙ a) (value r fine s)

module _ (h : ℕ) (lo : 899 ≤ h % 2048) (hi : h % 2048 ≤ 1148) where
  abbrev f : ℕ
  f = h % 2048

  abbrev k : ℕ
  k = f - 898

  abbrev big : ℕ
  big = (h + 29) * 0x0010_0000_0000_0000

  pub bias-number : T (not (nan_bits binary64 (big - 0x0100_0000)))
  bias-number = rest-no-nan binary64 (big - 0x0100_0000) (omega arith)

  pub near-number : T (not (nan_bits binary64 (big - 0x0080_0000)))
  near-number = rest-no-nan binary64 (big - 0x0080_0000) (omega arith)

  pub far-number : T (not (nan_bits binary64 (big + 0x0080_0000)))
  far-number = rest-no-nan binary64 (big + 0x0080_0000) (omega arith)

  module _ (s : Bool) (is : h ≡ cond s 2048 0 + f) where
    sized : (b r q x A : ℕ) → b ≡ cond s 0x8000_0000_0000_0000 0 + r → r < 0x7ff0_0000_0000_0000 → r / 2 ^ 52 ≡ suc x
        → r ≡ x * 2 ^ 52 + q → q * 2 ^ x ≡ A → of_bits binary64 b ≡ round binary64 s A L
    sized b r q x A e fine d p a =
        sym (round-own binary64 (of_bits binary64 b) s A L (of_bits-fits binary64 b) (pow_pos 1074)
        (subst (λ (z : ℕ). HasValue (of_bits binary64 z) s A L) (sym e) (at s r q x A fine d p a)))

    -- The sign bit stays apart from the rest.
    beside : (s : Bool) (h f c d : ℕ) → h ≡ cond s 2048 0 + f → c ≤ 0x0100_0000
        → (h + 29) * 0x0010_0000_0000_0000 - c + d ≡ cond s 0x8000_0000_0000_0000 0 + ((f + 29) * 2 ^ 52 - c + d)
    beside true h f c d e l = omega arith
    beside false h f c d e l = omega arith

    -- The size in either unit.
    lower : (q : ℕ) → q * 2 ^ (f + 27) ≡ q * digit k
    lower q = ap (λ (z : ℕ). q * 2 ^ z) (omega arith)

    upper : (2 ^ 52 + 2 ^ 23) * 2 ^ (f + 28) ≡ far-of k
    upper =
        let e : f + 28 ≡ suc (925 + k) = omega arith in
        let t : 2 ^ (f + 28) ≡ digit k + digit k = ap (λ (z : ℕ). 2 ^ z) e ∙ two-pow-succ (925 + k) in
        omega arith

    bias : of_bits binary64 (big - 0x0100_0000) ≡ round binary64 s (bias-of k) L
    bias =
        sized (big - 0x0100_0000) ((f + 29) * 2 ^ 52 - 0x0100_0000) (2 ^ 53 - 2 ^ 24) (f + 27) (bias-of k)
        (omega (arith, beside s h f 0x0100_0000 0 is (omega arith))) (omega arith) (omega arith) (omega arith)
        (lower (2 ^ 53 - 2 ^ 24))

    near : of_bits binary64 (big - 0x0080_0000) ≡ round binary64 s (near_of k) L
    near =
        sized (big - 0x0080_0000) ((f + 29) * 2 ^ 52 - 0x0080_0000) (2 ^ 53 - 2 ^ 23) (f + 27) (near_of k)
        (omega (arith, beside s h f 0x0080_0000 0 is (omega arith))) (omega arith) (omega arith) (omega arith)
        (lower (2 ^ 53 - 2 ^ 23))

    far : of_bits binary64 (big + 0x0080_0000) ≡ round binary64 s (far-of k) L
    far =
        sized (big + 0x0080_0000) ((f + 29) * 2 ^ 52 + 0x0080_0000) (2 ^ 52 + 2 ^ 23) (f + 28) (far-of k)
        (omega (arith, beside s h f 0 0x0080_0000 is (omega arith))) (omega arith) (omega arith) (omega arith) upper

  -- ---- with a plus and with a minus
  pub ends-plus : h < 2048
      → ends (of_bits binary64 (big - 0x0100_0000)) (of_bits binary64 (big - 0x0080_0000))
      (of_bits binary64 (big + 0x0080_0000))
      ≡ ends_for (leb 2048 h) k
  unfolding ends_for
  ends-plus l =
      let e : h ≡ cond false 2048 0 + f = omega arith in
      rw (lt-leb 2048 h l) (same_ends (bias false e) (near false e) (far false e))

  pub ends-minus : h < 4096 → 2048 ≤ h
      → ends (of_bits binary64 (big - 0x0100_0000)) (of_bits binary64 (big + 0x0080_0000))
      (of_bits binary64 (big - 0x0080_0000))
      ≡ ends_for (leb 2048 h) k
  unfolding ends_for
  ends-minus u l =
      let e : h ≡ cond true 2048 0 + f = omega arith in
      rw (le-leb 2048 h l) (same_ends (bias true e) (far true e) (near true e))
