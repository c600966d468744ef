-- The sign of a factor or a dividend can be moved outside, exactly. So the weights c0 and c2 may be computed without
-- it. Assumes nothing.
use mathlib.Core.Path.{◌≡◌, refl, ap}
use mathlib.Core.Bool.{Bool, true, false, not, cond}
use Prim.Native.Nat.{◌*◌}
use lib.Dec.{eqb}
use lib.IntN.{pos}
use lib.Ieee.{Float, nan, inf, fin, Format, up, down, unlike, round, neg, add, sub, mul, div}
use Rattle.rounding.proofs.SumSymmetry.{round-neg}
use Rattle.cubic_farrow.specs.Cubic.{one, two, six, c1, c3, weighed}

unlike-left : (s t : Bool) → unlike (not s) t ≡ not (unlike s t)
unlike-left true true = refl
unlike-left true false = refl
unlike-left false true = refl
unlike-left false false = refl

unlike-right : (s t : Bool) → unlike s (not t) ≡ not (unlike s t)
unlike-right true true = refl
unlike-right true false = refl
unlike-right false true = refl
unlike-right false false = refl

-- A NaN, or an infinity with its sign.
none_or : (b s : Bool) → cond b nan (inf (not s)) ≡ neg (cond b nan (inf s))
unfolding neg
none_or true s = refl
none_or false s = refl

mul_left : (f : Format) (x y : Float) → mul f (neg x) y ≡ neg (mul f x y)
unfolding mul neg
mul_left f nan y = refl
mul_left f (inf s) nan = refl
mul_left f (inf s) (inf t) = ap inf (unlike-left s t)
mul_left f (inf s) (fin t n d) = rw (unlike-left s t) (none_or (eqb n 0) (unlike s t))
mul_left f (fin s m e) nan = refl
mul_left f (fin s m e) (inf t) = rw (unlike-left s t) (none_or (eqb m 0) (unlike s t))
mul_left f (fin s m e) (fin t n d) =
    rw (unlike-left s t) (round-neg f (unlike s t) (m * up e * (n * up d)) (down e * down d))

mul_right : (f : Format) (x y : Float) → mul f x (neg y) ≡ neg (mul f x y)
unfolding mul neg
mul_right f nan y = refl
mul_right f (inf s) nan = refl
mul_right f (inf s) (inf t) = ap inf (unlike-right s t)
mul_right f (inf s) (fin t n d) = rw (unlike-right s t) (none_or (eqb n 0) (unlike s t))
mul_right f (fin s m e) nan = refl
mul_right f (fin s m e) (inf t) = rw (unlike-right s t) (none_or (eqb m 0) (unlike s t))
mul_right f (fin s m e) (fin t n d) =
    rw (unlike-right s t) (round-neg f (unlike s t) (m * up e * (n * up d)) (down e * down d))

div-left : (f : Format) (x y : Float) → div f (neg x) y ≡ neg (div f x y)
unfolding div neg
div-left f nan y = refl
div-left f (inf s) nan = refl
div-left f (inf s) (inf t) = refl
div-left f (inf s) (fin t n d) = ap inf (unlike-left s t)
div-left f (fin s m e) nan = refl
div-left f (fin s m e) (inf t) = ap (λ (b : Bool). fin b 0 (pos 0)) (unlike-left s t)
div-left f (fin s m e) (fin t n d) = go (eqb n 0)
  where
    go : (b : Bool)
        → cond b (cond (eqb m 0) nan (inf (unlike (not s) t)))
        (round f (unlike (not s) t) (m * up e * down d) (n * up d * down e))
        ≡ neg (cond b (cond (eqb m 0) nan (inf (unlike s t)))
        (round f (unlike s t) (m * up e * down d) (n * up d * down e)))
    go true = rw (unlike-left s t) (none_or (eqb m 0) (unlike s t))
    go false = rw (unlike-left s t) (round-neg f (unlike s t) (m * up e * down d) (n * up d * down e))

-- The weights c0 and c2 without their signs.
abbrev c0' : Format → Float → Float
c0' f mu = div f (mul f (mul f mu (sub f mu one)) (sub f mu two)) six

abbrev c2' : Format → Float → Float
c2' f mu = div f (mul f (mul f (add f mu one) mu) (sub f mu two)) two

outside : (f : Format) (x a b d : Float) → mul f x (div f (mul f (neg a) b) d) ≡ neg (mul f x (div f (mul f a b) d))
outside f x a b d = rw (mul_left f a b, div-left f (mul f a b) d, mul_right f x (div f (mul f a b) d))

pub unsigned : (f : Format) (mu xm1 x0 x1 x2 : Float)
    → add f (sub f (add f (neg (mul f xm1 (c0' f mu))) (mul f x0 (c1 f mu))) (mul f x1 (c2' f mu))) (mul f x2 (c3 f mu))
    ≡ weighed f mu xm1 x0 x1 x2
unfolding sub
unsigned f mu xm1 x0 x1 x2 =
    rw (
      mul_left f mu (sub f mu one),
      outside f xm1 (mul f mu (sub f mu one)) (sub f mu two) six,
      mul_left f (add f mu one) mu,
      outside f x1 (mul f (add f mu one) mu) (sub f mu two) two,
    )
