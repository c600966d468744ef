-- What `unpack` means: the digits and the place of a finite value that is not zero, read from its pattern. Assumes
-- nothing.
use mathlib.Core.Path.{◌≡◌, sym, ap, ◌∙◌, subst}
use mathlib.Core.Logic.{dite}
use mathlib.Core.Bool.{Bool, cond}
use Prim.Native.Nat.{ℕ, suc, ◌+◌, ◌-◌, ◌*◌, ◌/◌, ◌%◌, ◌^◌, ◌≤◌, ◌<◌}
use native.Mathlib.Nat.{lt_of_lt_of_le, mul_assoc}
use native.Mathlib.Decide.{dec_lt}
use native.Mathlib.Omega.{arith}
use borrow.Author.Tests.{le-leb, lt-leb, eq-eqb, ne_eqb}
use lib.Dec.{T, leb, eqb}
use lib.Pow.{pow-add, pow_pos, pow_mono, shl_lt}
use lib.Bits.{shifted_even}
use lib.Ieee.{Float, binary64, size, units, fits, of_bits, to_bits}
use lib.Ieee.Bits.{of_bits-to_bits, to_bits-lt}
use lib.Ieee.Digits.{size-le}
use lib.Ieee.Exact.{HasValue, units_val}
use lib.Ieee.Positive.{first_pos}
use Rattle.rounding.proofs.Patterns.{sign-rest, finite-rest, unpacked as pattern}
use Rattle.rounding.proofs.Values.{rescale}
use Rattle.float_digits.specs.declared.Scaled.{Scaled}
use Rattle.float_digits.specs.Pattern.{place_of, digits_of, unpacked, plain}
use Rattle.float_digits.proofs.PlainValues.{plain-finite, plain-some}
use Rattle.float_digits.proofs.Lengths.{filled-least, filled-below}

-- The value x is (-1) ^ s * m * 2 ^ e / 2 ^ 1137, and m has 63 digits, the last of them 0.
pub record Scaling (x : Float) (p : Scaled) : Type 0 where
  pub sign : p.s < 2
  pub least : 2 ^ 62 ≤ p.m
  pub below : p.m < 2 ^ 63
  pub even : p.m % 2 ≡ 0
  pub bounded : p.e ≤ 2098
  pub value : HasValue x (eqb p.s 1) (p.m * 2 ^ p.e) (2 ^ 1137)

sign_bit : (n : ℕ) → n < 2 ^ 64 → leb (2 ^ 63) n ≡ eqb (n / 2 ^ 63) 1
sign_bit n h =
    dite (dec_lt n (2 ^ 63)) (λ l. lt-leb (2 ^ 63) n l ∙ sym (ne_eqb (n / 2 ^ 63) 1 (omega arith)))
    (λ g. le-leb (2 ^ 63) n (omega arith) ∙ sym (eq-eqb (n / 2 ^ 63) 1 (omega arith)))

-- ---- the law
scales : (d k j : ℕ) → j ≤ 63 → d * 2 ^ k * 2 ^ 1137 ≡ d * 2 ^ (63 - j) * 2 ^ (k + j) * 2 ^ 1074
scales d k j h =
    mul_assoc d (2 ^ k) (2 ^ 1137)
    ∙ ap (λ (x : ℕ). d * x) (sym (pow-add 2 k 1137)
    ∙ ap (λ (x : ℕ). 2 ^ x) (omega arith)
    ∙ pow-add 2 (63 - j) (k + j + 1074)
    ∙ ap (λ (x : ℕ). 2 ^ (63 - j) * x) (pow-add 2 (k + j) 1074))
    ∙ sym (mul_assoc d (2 ^ (63 - j)) (2 ^ (k + j) * 2 ^ 1074))
    ∙ sym (mul_assoc (d * 2 ^ (63 - j)) (2 ^ (k + j)) (2 ^ 1074))

pub scaling : (x : Float) → T (fits binary64 x) → T (plain x) → Scaling x (unpacked (to_bits binary64 x))
scaling x held p =
    let n = to_bits binary64 x in
    let k = place_of n in
    let d = digits_of n in
    let s = eqb (n / 2 ^ 63) 1 in
    let back : of_bits binary64 n ≡ x = of_bits-to_bits binary64 x held in
    let N : n < 2 ^ 64 = to_bits-lt binary64 x held in
    let F : n % 2 ^ 63 < 0x7ff0_0000_0000_0000 = finite-rest binary64 n (rw back (plain-finite x p)) in
    let K : k ≤ 2045 = omega arith in
    let D : d < 2 ^ 53 = omega arith in
    let reads : x ≡ units binary64 s d k =
    sym back
    ∙ ap (of_bits binary64)
    (sign-rest binary64 n N ∙ ap (λ (b : Bool). cond b (2 ^ 63) 0 + n % 2 ^ 63) (sign_bit n N))
    ∙ pattern binary64 s (n % 2 ^ 63) F in
    let value : HasValue x s (d * 2 ^ k) (2 ^ 1074) =
    subst (λ (v : Float). HasValue v s (d * 2 ^ k) (2 ^ 1074)) (sym reads)
    (units_val binary64 s d k (lt_of_lt_of_le (shl_lt 53 k D) (pow_mono {j = 2098} (omega arith)))) in
    let some : 0 < d = first_pos d (2 ^ k) (plain-some x s (d * 2 ^ k) (2 ^ 1074) p (pow_pos 1074) value) in
    let J : size d ≤ 53 = size-le d 53 D in
    let J63 : size d ≤ 63 = omega arith in
    let more : 63 - size d ≡ suc (62 - size d) = omega arith in
    record {
      sign = omega arith;
      least = filled-least d 63 some J63;
      below = filled-below d 63 some J63;
      even = ap (λ (j : ℕ). d * 2 ^ j % 2) more ∙ shifted_even d (62 - size d);
      bounded = omega arith;
      value =
          rescale x s (d * 2 ^ k) (2 ^ 1074) (d * 2 ^ (63 - size d) * 2 ^ (k + size d)) (2 ^ 1137) (pow_pos 1074)
          (scales d k (size d) J63) value;
    }
