-- `fused` of three values that are given as fractions, and where nothing has to be multiplied or added: a product of
-- zero is exact, and adding a zero leaves the product. The result of `fused` is a value of the format. Assumes nothing.
use mathlib.Core.Path.{◌≡◌, refl, sym, ap, ◌∙◌, subst}
use mathlib.Core.Bool.{Bool, true, false}
use Prim.Native.Nat.{ℕ, ◌*◌, ◌<◌}
use native.Mathlib.Nat.{add-zero, sub-zero, zero-mul, mul-one, mul_comm, mul_assoc, mul_left_comm, mul-pos}
use lib.Dec.{T}
use lib.IntN.{ℤ, pos}
use lib.Ieee.{Float, nan, inf, fin, Format, unlike, up, down, round, sum, add, mul, fits}
use lib.Ieee.Fits.{down_pos, round-fits, add-fits, nan-fits, inf-fits}
use lib.Ieee.Exact.{HasValue}
use lib.Ieee.Scale.{round_same}
use Rattle.rounding.specs.Operations.{fused}
use Rattle.rounding.proofs.Products.{exact-product}
use Rattle.rounding.proofs.Sums.{sum_is, sum_like, sum_less, sum_same, sum-sign, sum-size, round-zero}

ruleset products = (mul_assoc, mul_comm, mul_left_comm)

cross_product : (M N x y z A B C : ℕ) → M * C ≡ A * x → N * C ≡ B * y → M * N * z * (C * C) ≡ A * B * (x * y * z)
cross_product M N x y z A B C h k =
    let a : M * N * z * (C * C) ≡ M * C * (N * C) * z = simp products in
    let b : A * x * (B * y) * z ≡ A * B * (x * y * z) = simp products in
    a ∙ ap (λ (o : ℕ). o * (N * C) * z) h ∙ ap (λ (o : ℕ). A * x * o * z) k ∙ b

cross-addend : (K x y z G C : ℕ) → K * C ≡ G * z → K * (x * y) * (C * C) ≡ G * C * (x * y * z)
cross-addend K x y z G C h =
    let a : K * (x * y) * (C * C) ≡ K * C * (x * y * C) = simp products in
    let b : G * z * (x * y * C) ≡ G * C * (x * y * z) = simp products in
    a ∙ ap (λ (o : ℕ). o * (x * y * C)) h ∙ b

pub fused-value : (f : Format) (x y z : Float) (s t u : Bool) (A B G C : ℕ) → 0 < C → HasValue x s A C
    → HasValue y t B C → HasValue z u G C → fused f x y z ≡ sum f (unlike s t) (A * B) u (G * C) (C * C)
unfolding fused
fused-value f nan y z s t u A B G C P p q r = absurd p
fused-value f (inf v) y z s t u A B G C P p q r = absurd p
fused-value f (fin v m e) nan z s t u A B G C P p q r = absurd q
fused-value f (fin v m e) (inf w) z s t u A B G C P p q r = absurd q
fused-value f (fin v m e) (fin w n d) nan s t u A B G C P p q r = absurd r
fused-value f (fin v m e) (fin w n d) (inf h) s t u A B G C P p q r = absurd r
fused-value f (fin v m e) (fin w n d) (fin h k g) s t u A B G C P p q r =
    sum_same f (unlike v w) (m * up e * (n * up d) * down g) h (k * up g * (down e * down d)) (down e * down d * down g)
    (A * B) (G * C) (C * C)
    (mul-pos (mul-pos (down_pos e) (down_pos d)) (down_pos g)) (mul-pos P P)
    (cross_product (m * up e) (n * up d) (down e) (down d) (down g) A B C p.1 q.1)
    (cross-addend (k * up g) (down e) (down d) (down g) G C r.1)
    ∙ ap (λ (b : Bool). sum f (unlike b w) (A * B) h (G * C) (C * C)) p.0
    ∙ ap (λ (b : Bool). sum f (unlike s b) (A * B) h (G * C) (C * C)) q.0
    ∙ ap (λ (b : Bool). sum f (unlike s t) (A * B) b (G * C) (C * C)) r.0

module _ (f : Format) (s : Bool) (m : ℕ) (e : ℤ) (t : Bool) (n : ℕ) (d : ℤ) where
  abbrev p : ℕ
  p = m * up e * (n * up d)

  abbrev c : ℕ
  c = down e * down d

  c_pos : 0 < c
  c_pos = mul-pos (down_pos e) (down_pos d)

  pub no-product : (z : Float) → p ≡ 0 → add f (mul f (fin s m e) (fin t n d)) z ≡ fused f (fin s m e) (fin t n d) z
  unfolding mul
  no-product z h =
      let is : round f (unlike s t) p c ≡ fin (unlike s t) 0 (pos 0) =
      ap (λ (x : ℕ). round f (unlike s t) x c) h ∙ round-zero f (unlike s t) c c_pos in
      exact-product f (round f (unlike s t) p c) s m e t n d z
      (subst (λ (v : Float). HasValue v (unlike s t) p c) (sym is) (refl, zero-mul c ∙ sym (mul-one p ∙ h)))

  pub no-addend : (u : Bool) (g : ℤ) → 0 < p
      → mul f (fin s m e) (fin t n d) ≡ fused f (fin s m e) (fin t n d) (fin u 0 g)
  unfolding mul fused
  no-addend u g P =
      sym (ap (λ (x : ℕ). sum f (unlike s t) (p * down g) u x (c * down g))
      (ap (λ (x : ℕ). x * c) (zero-mul (up g)) ∙ zero-mul c)
      ∙ added-nothing (unlike s t) u (p * down g) (c * down g) (mul-pos P (down_pos g))
      ∙ round_same f (unlike s t) (p * down g) (c * down g) p c (mul-pos c_pos (down_pos g)) c_pos (simp products))
    where
      added-nothing : (S R : Bool) (a k : ℕ) → 0 < a → sum f S a R 0 k ≡ round f S a k
      added-nothing true true a k A = sum_like f true true a 0 k refl ∙ ap (λ (x : ℕ). round f true x k) (add-zero a)
      added-nothing false false a k A =
          sum_like f false false a 0 k refl ∙ ap (λ (x : ℕ). round f false x k) (add-zero a)
      added-nothing true false a k A =
          sum_less f true false a 0 k refl A ∙ ap (λ (x : ℕ). round f true x k) (sub-zero a)
      added-nothing false true a k A =
          sum_less f false true a 0 k refl A ∙ ap (λ (x : ℕ). round f false x k) (sub-zero a)

-- ---- the result is a value of the format
sum_fits : (f : Format) (s : Bool) (a : ℕ) (t : Bool) (b c : ℕ) → T (fits f (sum f s a t b c))
sum_fits f s a t b c = rw (sum_is f s a t b c) (round-fits f (sum-sign s a t b) (sum-size s a t b) c)

pub fused-fits : (f : Format) (x y z : Float) → T (fits f (fused f x y z))
unfolding fused
fused-fits f nan y z = nan-fits f
fused-fits f (inf s) y z = add-fits f (mul f (inf s) y) z
fused-fits f (fin s m e) nan z = nan-fits f
fused-fits f (fin s m e) (inf t) z = add-fits f (mul f (fin s m e) (inf t)) z
fused-fits f (fin s m e) (fin t n d) nan = nan-fits f
fused-fits f (fin s m e) (fin t n d) (inf u) = inf-fits f u
fused-fits f (fin s m e) (fin t n d) (fin u k g) =
    sum_fits f (unlike s t) (m * up e * (n * up d) * down g) u (k * up g * (down e * down d)) (down e * down d * down g)
