-- `fused` is the exact x * y + z, rounded once, whatever fraction the exact sum is written as;
-- so it is the nearest value to it, a tie to even, and infinite from the midpoint above the largest value on.
-- Assumes nothing.
use mathlib.Core.Path.{◌≡◌, sym, ap, ◌∙◌, subst}
use mathlib.Core.Bool.{Bool}
use Prim.Native.Nat.{ℕ, ◌*◌, ◌<◌}
use native.Mathlib.Nat.{mul-pos}
use lib.Dec.{T}
use lib.Ieee.{Float, nan, inf, fin, Format, unlike, up, down, round}
use lib.Ieee.Fits.{down_pos}
use lib.Ieee.Scale.{finite, round_same}
use Rattle.rounding.specs.Operations.{fused}
use Rattle.rounding.specs.Nearest.{RoundedOnce, ExactFused}
use Rattle.rounding.proofs.Sums.{sum_is, sum-sign, sum-size}
use Rattle.rounding.proofs.NearestTiesToEven.{round-once}
use Rattle.rounding.proofs.SignedSums.{sum-adds, sum_one}

pub fused-once : (f : Format) (x y z : Float) (s : Bool) (num den : ℕ) → 0 < den → ExactFused x y z s num den
    → fused f x y z ≡ round f s num den
unfolding fused
fused-once f nan y z S num den D h = absurd h
fused-once f (inf s) y z S num den D h = absurd h
fused-once f (fin s m e) nan z S num den D h = absurd h
fused-once f (fin s m e) (inf t) z S num den D h = absurd h
fused-once f (fin s m e) (fin t n d) nan S num den D h = absurd h
fused-once f (fin s m e) (fin t n d) (inf u) S num den D h = absurd h
fused-once f (fin s m e) (fin t n d) (fin u k g) S num den D h =
    let p = unlike s t in
    let a = m * up e * (n * up d) * down g in
    let b = k * up g * (down e * down d) in
    let c = down e * down d * down g in
    let o =
    sum_one (sum-sign p a u b) S (sum-size p a u b * den) (num * c) p u (a * den) (b * den)
    (sum-adds p a u b den D) h in
    sum_is f p a u b c
    ∙ ap (λ (z : Bool). round f z (sum-size p a u b) c) o.0
    ∙ round_same f S (sum-size p a u b) c num den (mul-pos (mul-pos (down_pos e) (down_pos d)) (down_pos g)) D o.1

-- Every x * y + z of finite numbers is such a fraction.
pub fused-exact : (x y z : Float) → T (finite x) → T (finite y) → T (finite z)
    → (s : Bool) × (num : ℕ) × (den : ℕ) × (0 < den) × ExactFused x y z s num den
fused-exact nan y z h i j = absurd h
fused-exact (inf s) y z h i j = absurd h
fused-exact (fin s m e) nan z h i j = absurd i
fused-exact (fin s m e) (inf t) z h i j = absurd i
fused-exact (fin s m e) (fin t n d) nan h i j = absurd j
fused-exact (fin s m e) (fin t n d) (inf u) h i j = absurd j
fused-exact (fin s m e) (fin t n d) (fin u k g) h i j =
    let p = unlike s t in
    let a = m * up e * (n * up d) * down g in
    let b = k * up g * (down e * down d) in
    let c = down e * down d * down g in
    let C = mul-pos (mul-pos (down_pos e) (down_pos d)) (down_pos g) in
    (sum-sign p a u b, sum-size p a u b, c, C, sum-adds p a u b c C)

pub fused-nearest : (f : Format) (x y z : Float) (s : Bool) (num den : ℕ) → 0 < den → ExactFused x y z s num den
    → RoundedOnce f s num den (fused f x y z)
fused-nearest f x y z s num den D h =
    subst (RoundedOnce f s num den) (sym (fused-once f x y z s num den D h)) (round-once f s num den D)
