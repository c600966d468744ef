-- The fused step is one rounding of the exact x * y + z, for any format: the law of the crate `rounding`, in fractions.
-- Assumes nothing.
use Prim.Native.Nat.{◌*◌}
use native.Mathlib.Nat.{mul-pos}
use lib.Dec.{T}
use lib.Ieee.{Float, nan, inf, fin, Format, unlike, up, down}
use lib.Ieee.Fits.{down_pos}
use lib.Ieee.Scale.{finite}
use Rattle.rounding.specs.Operations.{fused}
use Rattle.rounding.proofs.FusedOnce.{fused-exact, fused-once}
use Rattle.rounding_error.specs.Fraction.{plus, times}
use Rattle.rounding_error.specs.Value.{val}
use Rattle.rounding_error.proofs.Same.{same_refl, same-trans, plus-same}
use Rattle.rounding_error.proofs.Value.{signed-pos}
use Rattle.rounding_error.proofs.Operations.{Rounded, sum-is-joint, joint-same, product-same}

pub fused-rounded : (f : Format) (x y z : Float) → T (finite x) → T (finite y) → T (finite z)
    → Rounded f (fused f x y z) (plus (times (val x) (val y)) (val z))
fused-rounded f nan y z h i j = absurd h
fused-rounded f (inf s) y z h i j = absurd h
fused-rounded f (fin s m e) nan z h i j = absurd i
fused-rounded f (fin s m e) (inf t) z h i j = absurd i
fused-rounded f (fin s m e) (fin t n d) nan h i j = absurd j
fused-rounded f (fin s m e) (fin t n d) (inf u) h i j = absurd j
fused-rounded f (fin s m e) (fin t n d) (fin u k g) h i j =
    let x = fused-exact (fin s m e) (fin t n d) (fin u k g) h i j in
    let A = m * up e * (n * up d) in
    let C = down e * down d in
    let P = mul-pos (down_pos e) (down_pos d) in
    record {
      s = x.0;
      a = x.1;
      c = x.2;
      is = fused-once f (fin s m e) (fin t n d) (fin u k g) x.0 x.1 x.2 x.3 x.4;
      same =
          same-trans (sum-is-joint x.0 (unlike s t) u x.1 x.2 (A * down g) (k * up g * C) (C * down g) x.3
          (mul-pos P (down_pos g)) x.4)
          (same-trans (joint-same (unlike s t) u A C (k * up g) (down g) P (down_pos g))
          (plus-same (product-same s t (m * up e) (down e) (n * up d) (down d) (down_pos e) (down_pos d))
          (same_refl (signed-pos u (k * up g) (down g) (down_pos g)))));
    }
