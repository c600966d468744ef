-- The cases of `fused64` where a factor or the addend is a zero, an infinity or a NaN. Assumes nothing.
use Rattle.std.proofs.Common.{◌≡◌, ℕ, zero, suc, ◌*◌, true, false, not, ◌&&◌, T, sym, refl, ap, ◌∙◌, true≢false}
use Rattle.std.proofs.Common.{zero-lt-suc, mul-pos, mul-zero, zero-mul}
use lib.Ieee.{Float, nan, inf, fin, binary64, up, odd, of_fields, of_bits, is_nan, eq, add, mul}
use lib.Ieee.Fits.{up_pos}
use Rattle.rounding.specs.Operations.{fused}
use Rattle.rounding.proofs.Fusing.{no-product, no-addend}
use Rattle.float_digits.specs.Pattern.{plain}
use Rattle.float_digits.proofs.PlainValues.{eq-zero}

pub factor-not-plain : (x y z : Float) → (plain x && plain y) ≡ false
    → add binary64 (mul binary64 x y) z ≡ fused binary64 x y z
unfolding fused add mul
factor-not-plain nan y z h = refl
factor-not-plain (inf s) nan z h = refl
factor-not-plain (inf s) (inf t) z h = refl
factor-not-plain (inf s) (fin t n d) z h = refl
factor-not-plain (fin s m e) nan z h = refl
factor-not-plain (fin s m e) (inf t) z h = refl
factor-not-plain (fin s zero e) (fin t n d) z h =
    no-product binary64 s 0 e t n d z (ap (λ (x : ℕ). x * (n * up d)) (zero-mul (up e)) ∙ zero-mul (n * up d))
factor-not-plain (fin s (suc m) e) (fin t zero d) z h =
    no-product binary64 s (suc m) e t 0 d z
    (ap (λ (x : ℕ). suc m * up e * x) (zero-mul (up d)) ∙ mul-zero (suc m * up e))
factor-not-plain (fin s (suc m) e) (fin t (suc n) d) z h = absurd (true≢false h)

-- Adding a zero leaves the product; an infinity or a NaN is the result.
pub addend-not-plain : (x y z : Float) → (plain x && plain y) ≡ true → plain z ≡ false
    → (eq z (of_bits binary64 0) ≡ true → mul binary64 x y ≡ fused binary64 x y z)
    × (eq z (of_bits binary64 0) ≡ false → z ≡ fused binary64 x y z)
unfolding fused mul eq of_bits of_fields odd
addend-not-plain nan y z p q = absurd (true≢false (sym p))
addend-not-plain (inf s) y z p q = absurd (true≢false (sym p))
addend-not-plain (fin s zero e) y z p q = absurd (true≢false (sym p))
addend-not-plain (fin s (suc m) e) nan z p q = absurd (true≢false (sym p))
addend-not-plain (fin s (suc m) e) (inf t) z p q = absurd (true≢false (sym p))
addend-not-plain (fin s (suc m) e) (fin t zero d) z p q = absurd (true≢false (sym p))
addend-not-plain (fin s (suc m) e) (fin t (suc n) d) nan p q = ((λ h. absurd (true≢false (sym h))), λ _. refl)
addend-not-plain (fin s (suc m) e) (fin t (suc n) d) (inf u) p q = ((λ h. absurd (true≢false (sym h))), λ _. refl)
addend-not-plain (fin s (suc m) e) (fin t (suc n) d) (fin u zero g) p q = (
  (λ _. no-addend binary64 s (suc m) e t (suc n) d u g
      (mul-pos (mul-pos (zero-lt-suc m) (up_pos e)) (mul-pos (zero-lt-suc n) (up_pos d)))),
  λ h. absurd (true≢false (sym (eq-zero (fin u zero g) refl) ∙ h)),
)
addend-not-plain (fin s (suc m) e) (fin t (suc n) d) (fin u (suc k) g) p q = absurd (true≢false q)

-- If the sum is not a NaN, none of the three numbers is one.
no-nan-addend : (p z : Float) → eq (add binary64 p z) (add binary64 p z) ≡ true → T (not (is_nan z))
unfolding add eq is_nan
no-nan-addend nan nan h = true≢false (sym h)
no-nan-addend (inf s) nan h = true≢false (sym h)
no-nan-addend (fin s m e) nan h = true≢false (sym h)
no-nan-addend p (inf u) h = tt
no-nan-addend p (fin u k g) h = tt

no-nan-factors : (x y z : Float) → eq (add binary64 (mul binary64 x y) z) (add binary64 (mul binary64 x y) z) ≡ true
    → T (not (is_nan x)) × T (not (is_nan y))
unfolding add mul eq is_nan
no-nan-factors nan y z h = absurd (true≢false (sym h))
no-nan-factors (inf s) nan z h = absurd (true≢false (sym h))
no-nan-factors (inf s) (inf t) z h = (tt, tt)
no-nan-factors (inf s) (fin t n d) z h = (tt, tt)
no-nan-factors (fin s m e) nan z h = absurd (true≢false (sym h))
no-nan-factors (fin s m e) (inf t) z h = (tt, tt)
no-nan-factors (fin s m e) (fin t n d) z h = (tt, tt)

pub no-nan-parts : (x y z : Float) → eq (add binary64 (mul binary64 x y) z) (add binary64 (mul binary64 x y) z) ≡ true
    → T (not (is_nan x)) × T (not (is_nan y)) × T (not (is_nan z))
no-nan-parts x y z h =
    let f = no-nan-factors x y z h in
    (f.0, f.1, no-nan-addend (mul binary64 x y) z h)
