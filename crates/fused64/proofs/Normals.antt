-- The sum that the quick way rounds is `fused`: it takes the same digits out of three normal patterns as `unpack`
-- would. Assumes nothing.
use Rattle.std.proofs.Common.{◌≡◌, ℕ, zero, suc, ◌+◌, ◌*◌, ◌/◌, ◌%◌, ◌^◌, ◌<◌, ◌≤◌, Bool, true, false, not, T, eqb, ℤ}
use Rattle.std.proofs.Common.{sym, refl, ap, ◌∙◌, subst, lt_of_lt_of_le, lt_irrefl, mul_assoc, zero-mul, arith, pow_pos}
use Rattle.std.proofs.Common.{pow-add}
use lib.Ieee.{Float, nan, inf, fin, binary64, up, down, size, unlike, fits, is_nan, of_bits, to_bits}
use Rattle.rounding.specs.Operations.{fused}
use Rattle.rounding.proofs.Patterns.{bits-finite}
use Rattle.rounding.proofs.Units.{to_bits-value}
use Rattle.float_digits.specs.Pattern.{plain, unpacked}
use Rattle.float_digits.proofs.UnpackNormal.{normal-digits, normal-place}
use Rattle.float_digits.proofs.UnpackMeaning.{Scaling, scaling}
use Rattle.fused64.specs.Wide.{val}
use Rattle.fused64.specs.Word.{Normal, Quick, digits53, field_of}
use Rattle.fused64.proofs.Terms.{widened, terms-sum}

-- The pattern of a zero is its sign bit.
nothing : (e : ℤ) → 0 * up e * 2 ^ 1074 ≡ 0 * down e
nothing e = ap (λ (x : ℕ). x * 2 ^ 1074) (zero-mul (up e)) ∙ sym (zero-mul (down e))

no_zero : (s : Bool) (e : ℤ) → to_bits binary64 (fin s 0 e) % 2 ^ 63 ≡ 0
unfolding size
no_zero true e = ap (λ (x : ℕ). x % 2 ^ 63) (to_bits-value binary64 (fin true 0 e) true 0 (refl, nothing e)) ∙ refl
no_zero false e = ap (λ (x : ℕ). x % 2 ^ 63) (to_bits-value binary64 (fin false 0 e) false 0 (refl, nothing e)) ∙ refl

plain-normal : (x : Float) → T (not (is_nan x)) → Normal (to_bits binary64 x) → T (plain x)
unfolding is_nan
plain-normal nan h N = h
plain-normal (inf s) h N = bits-finite binary64 (inf s) h N.below
plain-normal (fin s zero e) h N =
    absurd (lt_irrefl 0 (lt_of_lt_of_le (pow_pos 52) (subst (λ (x : ℕ). 2 ^ 52 ≤ x) (no_zero s e) N.least)))
plain-normal (fin s (suc m) e) h N = tt

taken : (x : Float) → T (fits binary64 x) → T (not (is_nan x)) → Normal (to_bits binary64 x)
    → Scaling x (unpacked (to_bits binary64 x))
taken x held h N = scaling x held (plain-normal x h N)

parity : (s t : ℕ) → s < 2 → t < 2 → eqb ((s + t) % 2) 1 ≡ unlike (eqb s 1) (eqb t 1)
parity zero zero h k = refl
parity zero (suc zero) h k = refl
parity (suc zero) zero h k = refl
parity (suc zero) (suc zero) h k = refl
parity zero (suc (suc t)) h k = absurd (omega arith)
parity (suc zero) (suc (suc t)) h k = absurd (omega arith)
parity (suc (suc s)) t h k = absurd (omega arith)

addend : (m e n i : ℕ) → m ≡ n * 2 ^ 10 → e ≡ i + 52
    → val (m / 4) (m * 2 ^ 62 % 2 ^ 64) * 2 ^ (e + 1075) ≡ n * 2 ^ 8 * 2 ^ (i + 1191)
addend m e n i p q =
    let a : m * 2 ^ 62 ≡ n * 2 ^ 8 * 2 ^ 64 = omega arith in
    let b : 64 + (e + 1075) ≡ i + 1191 = omega arith in
    ap (λ (x : ℕ). x * 2 ^ (e + 1075)) (widened m ∙ a)
    ∙ mul_assoc (n * 2 ^ 8) (2 ^ 64) (2 ^ (e + 1075))
    ∙ ap (λ (x : ℕ). n * 2 ^ 8 * x) (sym (pow-add 2 64 (e + 1075)) ∙ ap (λ (x : ℕ). 2 ^ x) b)

module _ (x y z : Float) (hx : T (fits binary64 x)) (hy : T (fits binary64 y)) (hz : T (fits binary64 z))
    (nx : T (not (is_nan x))) (ny : T (not (is_nan y))) (nz : T (not (is_nan z))) where
  abbrev a : ℕ
  a = to_bits binary64 x

  abbrev b : ℕ
  b = to_bits binary64 y

  abbrev c : ℕ
  c = to_bits binary64 z

  pub quick-fused : (r : ℕ) → Quick a b c r → of_bits binary64 r ≡ fused binary64 x y z
  quick-fused r Q =
      let S = taken x hx nx Q.first in
      let R = taken y hy ny Q.second in
      let P = taken z hz nz Q.third in
      let sign = parity (a / 2 ^ 63) (b / 2 ^ 63) S.sign R.sign in
      let whole =
      terms-sum x y z (unpacked a) (unpacked b) (unpacked c) ((a / 2 ^ 63 + b / 2 ^ 63) % 2)
      ((unpacked a).m * (unpacked b).m) S R P sign refl in
      Q.sums
      ∙ (rw (
        normal-digits a Q.first.least,
        normal-place a Q.first.least,
        normal-digits b Q.second.least,
        normal-place b Q.second.least,
        addend (unpacked c).m (unpacked c).e (digits53 c) (field_of c) (normal-digits c Q.third.least)
            (normal-place c Q.third.least),
      ) at whole)
