-- A finite f64 has at most 53 digits, and the product of two f32 has 48, so that it is exactly an f64. Assumes nothing.
use Rattle.std.proofs.Common.{◌≡◌, ℕ, ◌+◌, ◌*◌, ◌^◌, ◌<◌, Bool, T, ℤ, sym, refl, ap, ◌∙◌, subst, le_trans, le_of_eq}
use Rattle.std.proofs.Common.{lt_of_lt_of_le, lt_of_le_of_lt, le_of_lt, mul-le-mul_right, mul_assoc, mul-le-mul}
use Rattle.std.proofs.Common.{mul-le-mul_left, mul-lt-mul_of_pos_right, lit<, lit≤, pow_pos, pow-add}
use native.Mathlib.Nat.{mul-mul-mul_comm}
use lib.Ieee.{Float, nan, inf, fin, binary32, binary64, unlike, up, down, round, add, mul, fits}
use lib.Ieee.Exact.{HasValue, round_exact}
use lib.Ieee.Scale.{finite}
use Rattle.fused32.specs.Parts.{Short}
use Rattle.rounding.specs.Operations.{fused}
use Rattle.rounding.proofs.Products.{exact-product, mul-value}
use Rattle.rounding.proofs.Values.{fits-units, rescale}

pub short : (x : Float) → T (fits binary64 x) → T (finite x) → Short x
short nan h f = absurd f
short (inf s) h f = absurd f
short (fin s m e) h f =
    let (i, v, few, b) = fits-units binary64 s m e h in
    record { sign = s; digits = m; places = i; few = few; bounded = lt_of_lt_of_le b (lit≤ tt); value = v }

-- ---- the product: as many units of 2 ^ -298 as the product of both counts
module _ (s : Bool) (m : ℕ) (e : ℤ) (t : Bool) (n : ℕ) (d : ℤ) (h : T (fits binary32 (fin s m e)))
    (k : T (fits binary32 (fin t n d))) where
  abbrev i : ℕ
  i = (fits-units binary32 s m e h).0

  abbrev j : ℕ
  j = (fits-units binary32 t n d k).0

  abbrev p : Float
  p = mul binary64 (fin s m e) (fin t n d)

  count : m * 2 ^ i * (n * 2 ^ j) ≡ m * n * 2 ^ (i + j)
  count = mul-mul-mul_comm m (2 ^ i) n (2 ^ j) ∙ ap (λ (z : ℕ). m * n * z) (sym (pow-add 2 i j))

  few : m * n < 2 ^ 48
  few =
      lt_of_le_of_lt (mul-le-mul_left m (le_of_lt (fits-units binary32 t n d k).2))
      (mul-lt-mul_of_pos_right (fits-units binary32 s m e h).2 (pow_pos 24))

  bounded : m * n * 2 ^ (i + j) * 2 ^ 776 < 2 ^ 1400
  bounded =
      lt_of_le_of_lt (mul-le-mul_right (2 ^ 776) (le_trans (le_of_eq (sym count))
      (mul-le-mul (le_of_lt (fits-units binary32 s m e h).3) (le_of_lt (fits-units binary32 t n d k).3))))
      (lit< tt)

  exact : HasValue p (unlike s t) (m * n * 2 ^ (i + j)) (2 ^ 298)
  exact =
      let E = m * n * 2 ^ (i + j) in
      let a : m * n * 2 ^ (i + j + 776) ≡ E * 2 ^ 776 =
      ap (λ (z : ℕ). m * n * z) (pow-add 2 (i + j) 776) ∙ sym (mul_assoc (m * n) (2 ^ (i + j)) (2 ^ 776)) in
      subst (λ (x : Float). HasValue x (unlike s t) E (2 ^ 298))
      (sym
      (mul-value binary64 (fin s m e) (fin t n d) s t (m * 2 ^ i) (n * 2 ^ j) (2 ^ 149) (2 ^ 149) (pow_pos 149)
      (pow_pos 149) (fits-units binary32 s m e h).1 (fits-units binary32 t n d k).1
      ∙ ap (λ (z : ℕ). round binary64 (unlike s t) z (2 ^ 298)) count))
      (round_exact binary64 (unlike s t) E (2 ^ 298) (m * n) (i + j + 776) (pow_pos 298) (lt_of_lt_of_le few (lit≤ tt))
      (lt_of_le_of_lt (le_of_eq a) (lt_of_lt_of_le bounded (lit≤ tt)))
      (sym (mul_assoc E (2 ^ 776) (2 ^ 298)) ∙ ap (λ (z : ℕ). z * 2 ^ 298) (sym a)))

  product_value : HasValue p (unlike s t) (m * up e * (n * up d)) (down e * down d)
  product_value =
      rescale p (unlike s t) (m * n * 2 ^ (i + j)) (2 ^ 298) (m * up e * (n * up d)) (down e * down d) (pow_pos 298)
      (sym
      (mul-mul-mul_comm (m * up e) (n * up d) (2 ^ 149) (2 ^ 149)
      ∙ ap (λ (z : ℕ). z * (n * up d * 2 ^ 149)) (fits-units binary32 s m e h).1.1
      ∙ ap (λ (z : ℕ). m * 2 ^ i * down e * z) (fits-units binary32 t n d k).1.1
      ∙ mul-mul-mul_comm (m * 2 ^ i) (down e) (n * 2 ^ j) (down d)
      ∙ ap (λ (z : ℕ). z * (down e * down d)) count))
      exact

-- ---- `fused` is the exact product, with the addend
pub fused-is : (a b c : Float) → T (fits binary32 a) → T (fits binary32 b)
    → add binary32 (mul binary64 a b) c ≡ fused binary32 a b c
unfolding fused
fused-is nan b c h k = refl
fused-is (inf s) nan c h k = refl
fused-is (inf s) (inf t) c h k = refl
fused-is (inf s) (fin t n d) c h k = refl
fused-is (fin s m e) nan c h k = refl
fused-is (fin s m e) (inf t) c h k = refl
fused-is (fin s m e) (fin t n d) c h k =
    exact-product binary32 (mul binary64 (fin s m e) (fin t n d)) s m e t n d c (product_value s m e t n d h k)
