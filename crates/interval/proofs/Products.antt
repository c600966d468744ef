-- A product whose first factor is not negative lies between products of ends; which ones depends on the signs of the
-- other factor's ends. A quotient of floats that are not negative, by one above zero, lies between quotients of ends.
-- Assumes nothing.
use mathlib.Core.Path.{◌≡◌, refl}
use mathlib.Core.Bool.{Bool, true, false, not, cond}
use Prim.Native.Nat.{◌+◌, ◌*◌, ◌≤◌, ◌<◌}
use native.Mathlib.Nat.{mul-pos}
use native.Mathlib.Omega.{arith}
use lib.Dec.{T}
use lib.IntN.{pos}
use lib.Ieee.{Float, nan, inf, fin, Format, up, mul, div, lt, le}
use lib.Ieee.Positive.{den, den_pos, first_pos}
use lib.Ieee.Scale.{finite}
use Rattle.magnitude.proofs.Comparisons.{lt→le}
use Rattle.interval.proofs.Signed.{gain, loss, under, strictly, nle→lt, Ordered, bound}
use Rattle.interval.proofs.Rounded.{none}
use Rattle.interval.proofs.MonotoneOperations.{product-grows, product-shrinks, quotient-grows}
use Rattle.interval.proofs.Between.{Between, between}

abbrev pub zero : Float
zero = fin false 0 (pos 0)

pub not_negative : (x : Float) → T (finite x) → T (le zero x) → loss x ≡ 0
not_negative nan p h = absurd p
not_negative (inf s) p h = absurd p
not_negative (fin true m e) p h = omega (arith, under zero (fin true m e) tt tt h)
not_negative (fin false m e) p h = refl

not-positive : (x : Float) → T (finite x) → T (le x zero) → gain x ≡ 0
not-positive nan p h = absurd p
not-positive (inf s) p h = absurd p
not-positive (fin true m e) p h = refl
not-positive (fin false m e) p h = omega (arith, under (fin false m e) zero tt tt h)

-- Nothing above a float that is not negative is negative, and nothing below one that is not positive is positive.
pub rises : {x y : Float} → Ordered x y → loss x ≡ 0 → loss y ≡ 0
rises {x} {y} o n = go y o.second (rw n at (bound o))
  where
    go : (y : Float) → T (finite y) → gain x * den y + loss y * den x ≤ gain y * den x + 0 * den y → loss y ≡ 0
    go nan q h = absurd q
    go (inf t) q h = absurd q
    go (fin false m e) q h = refl
    go (fin true m e) q h = none (m * up e) (den x) (den_pos x) (omega arith)

falls : {x y : Float} → Ordered x y → gain y ≡ 0 → gain x ≡ 0
falls {x} {y} o n = go x o.first (rw n at (bound o))
  where
    go : (x : Float) → T (finite x) → gain x * den y + loss y * den x ≤ 0 * den x + loss x * den y → gain x ≡ 0
    go nan q h = absurd q
    go (inf t) q h = absurd q
    go (fin true m e) q h = refl
    go (fin false m e) q h = none (m * up e) (den y) (den_pos y) (omega arith)

pub rises-above : {x y : Float} → Ordered x y → loss x ≡ 0 → 0 < gain x → 0 < gain y
rises-above {x} {y} o n g = first_pos (gain y) (den x) (omega (arith, mul-pos g (den_pos y), rw n at (bound o)))

-- The ends of a product whose first factor lies in [a, b] and is not negative: the lower end if the other begins at c,
-- the upper if it ends at d.
abbrev pub least : Format → Float → Float → Float → Float
least f a b c = mul f (cond (le zero c) a b) c

abbrev pub most : Format → Float → Float → Float → Float
most f a b d = mul f (cond (le zero d) b a) d

module _ (f : Format) {a b x c d y : Float} (z : T (le zero a)) (u : Between a b x) (v : Between c d y) where
  na : loss a ≡ 0
  na = not_negative a u.above.first z

  nx : loss x ≡ 0
  nx = rises u.above na

  nb : loss b ≡ 0
  nb = rises u.below nx

  low : (t : Bool) → (T t → T (le zero c)) → (T (not t) → T (not (le zero c)))
      → T (le (mul f (cond t a b) c) (mul f x y))
  low true j k =
      product-grows f u.above v.above na nx (rises v.above (not_negative c v.above.first (j tt)))
  low false j k =
      product-shrinks f u.below v.above nx nb
      (not-positive c v.above.first (lt→le c zero (nle→lt c zero v.above.first tt (k tt))))

  high : (t : Bool) → (T t → T (le zero d)) → (T (not t) → T (not (le zero d)))
      → T (le (mul f x y) (mul f (cond t b a) d))
  high true j k = product-grows f u.below v.below nx nb (not_negative d v.below.second (j tt))
  high false j k =
      product-shrinks f u.above v.below na nx
      (falls v.below (not-positive d v.below.second (lt→le d zero (nle→lt d zero v.below.second tt (k tt)))))

  pub product-between : {l h : Float} → least f a b c ≡ l → most f a b d ≡ h → T (finite l) → T (finite h)
      → Between l h (mul f x y)
  product-between el eh p q =
      between p q (rw el at (low (le zero c) (λ t. t) (λ t. t))) (rw eh at (high (le zero d) (λ t. t) (λ t. t)))

  pub quotient-between : {l h : Float} → T (lt zero c) → div f a d ≡ l → div f b c ≡ h → T (finite l) → T (finite h)
      → Between l h (div f x y)
  quotient-between s el eh p q =
      let lc = not_negative c v.above.first (lt→le zero c s) in
      let ly = rises v.above lc in
      let gc : 0 < gain c = omega (arith, strictly zero c tt v.above.first s) in
      let gy = rises-above v.above lc gc in
      between p q
      (rw el at (quotient-grows f u.above v.below na nx ly (rises v.below ly) gy
      (rises-above v.below ly gy)))
      (rw eh at (quotient-grows f u.below v.above nx nb lc ly gc gy))
