-- A finite sum, difference or product has finite parts. Assumes nothing.
use mathlib.Core.Bool.{beq}
use lib.Dec.{T, eqb}
use lib.Ieee.{Float, nan, inf, fin, binary64, unlike, add, sub, mul, neg}
use lib.Ieee.Scale.{finite}
use Rattle.rounding.proofs.Patterns.{no_value}

pub add-finite : (x y : Float) → T (finite (add binary64 x y)) → T (finite x) × T (finite y)
unfolding add
add-finite nan y h = absurd h
add-finite (inf s) nan h = absurd h
add-finite (inf s) (inf t) h = absurd (no_value (beq s t) (inf s) nan (λ z. z) (λ z. z) h)
add-finite (inf s) (fin t n d) h = absurd h
add-finite (fin s m e) nan h = absurd h
add-finite (fin s m e) (inf t) h = absurd h
add-finite (fin s m e) (fin t n d) h = (tt, tt)

neg-back : (x : Float) → T (finite (neg x)) → T (finite x)
unfolding neg
neg-back nan h = h
neg-back (inf s) h = absurd h
neg-back (fin s m e) h = tt

pub sub-finite : (x y : Float) → T (finite (sub binary64 x y)) → T (finite x) × T (finite y)
unfolding sub
sub-finite x y h = let (a, b) = add-finite x (neg y) h in (a, neg-back y b)

pub mul-finite : (x y : Float) → T (finite (mul binary64 x y)) → T (finite x) × T (finite y)
unfolding mul
mul-finite nan y h = absurd h
mul-finite (inf s) nan h = absurd h
mul-finite (inf s) (inf t) h = absurd h
mul-finite (inf s) (fin t n d) h = absurd (no_value (eqb n 0) nan (inf (unlike s t)) (λ z. z) (λ z. z) h)
mul-finite (fin s m e) nan h = absurd h
mul-finite (fin s m e) (inf t) h = absurd (no_value (eqb m 0) nan (inf (unlike s t)) (λ z. z) (λ z. z) h)
mul-finite (fin s m e) (fin t n d) h = (tt, tt)
