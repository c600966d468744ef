-- A product by the exact fraction that is rounded. If the product is exact, its sum with a third value is `fused`.
-- Assumes nothing.
use mathlib.Core.Path.{◌≡◌, refl, ap, ◌∙◌}
use mathlib.Core.Bool.{Bool}
use Prim.Native.Nat.{ℕ, ◌*◌, ◌<◌}
use native.Mathlib.Nat.{mul-pos, mul-mul-mul_comm}
use lib.IntN.{ℤ}
use lib.Ieee.{Float, nan, inf, fin, Format, unlike, up, down, round, add, mul}
use lib.Ieee.Fits.{down_pos}
use lib.Ieee.Exact.{HasValue}
use lib.Ieee.Scale.{round_same}
use Rattle.rounding.specs.Operations.{fused}
use Rattle.rounding.proofs.Adding.{add-value}

mul_is : (f : Format) (s : Bool) (m : ℕ) (e : ℤ) (t : Bool) (n : ℕ) (d : ℤ)
    → mul f (fin s m e) (fin t n d) ≡ round f (unlike s t) (m * up e * (n * up d)) (down e * down d)
unfolding mul
mul_is f s m e t n d = refl

-- The factors may be given by any fractions that they equal.
pub mul-value : (f : Format) (x y : Float) (s t : Bool) (A B C D : ℕ) → 0 < C → 0 < D → HasValue x s A C
    → HasValue y t B D → mul f x y ≡ round f (unlike s t) (A * B) (C * D)
mul-value f nan y s t A B C D P R h k = absurd h
mul-value f (inf u) y s t A B C D P R h k = absurd h
mul-value f (fin u m e) nan s t A B C D P R h k = absurd k
mul-value f (fin u m e) (inf w) s t A B C D P R h k = absurd k
mul-value f (fin u m e) (fin w n d) s t A B C D P R h k =
    mul_is f u m e w n d
    ∙ round_same f (unlike u w) (m * up e * (n * up d)) (down e * down d) (A * B) (C * D)
    (mul-pos (down_pos e) (down_pos d)) (mul-pos P R)
    (mul-mul-mul_comm (m * up e) (n * up d) C D
    ∙ ap (λ (z : ℕ). z * (n * up d * D)) h.1
    ∙ ap (λ (z : ℕ). A * down e * z) k.1
    ∙ mul-mul-mul_comm A (down e) B (down d))
    ∙ ap (λ (z : Bool). round f (unlike z w) (A * B) (C * D)) h.0
    ∙ ap (λ (z : Bool). round f (unlike s z) (A * B) (C * D)) k.0

-- ---- an exact product, added
add-nan : (f : Format) (x : Float) → add f x nan ≡ nan
unfolding add
add-nan f nan = refl
add-nan f (inf s) = refl
add-nan f (fin s m e) = refl

add-inf : (f : Format) (x : Float) (s : Bool) (a c : ℕ) (u : Bool) → HasValue x s a c → add f x (inf u) ≡ inf u
unfolding add
add-inf f nan s a c u h = absurd h
add-inf f (inf t) s a c u h = absurd h
add-inf f (fin t m e) s a c u h = refl

pub exact-product : (f : Format) (p : Float) (s : Bool) (m : ℕ) (e : ℤ) (t : Bool) (n : ℕ) (d : ℤ) (z : Float)
    → HasValue p (unlike s t) (m * up e * (n * up d)) (down e * down d)
    → add f p z ≡ fused f (fin s m e) (fin t n d) z
unfolding fused
exact-product f p s m e t n d nan h = add-nan f p
exact-product f p s m e t n d (inf u) h = add-inf f p (unlike s t) (m * up e * (n * up d)) (down e * down d) u h
exact-product f p s m e t n d (fin u k g) h =
    add-value f p (unlike s t) (m * up e * (n * up d)) (down e * down d) u k g (mul-pos (down_pos e) (down_pos d)) h
