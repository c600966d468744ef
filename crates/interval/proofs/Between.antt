-- A float lies between two finite ones, its ends. The result of an operation on such floats lies between results at
-- their ends, so that a bound has to be computed only there. Assumes nothing.
use mathlib.Core.Path.{◌≡◌}
use mathlib.Core.Bool.{true, false}
use Prim.Native.Nat.{ℕ, ◌≤◌}
use native.Mathlib.Nat.{le_refl, mul-le-mul_right}
use lib.Dec.{T, lit<}
use lib.IntN.{pos}
use lib.Ieee.{Float, nan, inf, fin, Format, neg, add, sub, of_int, le}
use lib.Ieee.Order.{round_mono}
use lib.Ieee.Scale.{finite}
use Rattle.interval.proofs.Signed.{of-under, le-le, Ordered}
use Rattle.interval.proofs.Rounded.{le-neg}
use Rattle.interval.proofs.MonotoneOperations.{sum-grows}

pub record Between (low high x : Float) : Type 0 where
  pub above : Ordered low x
  pub below : Ordered x high

-- What the tests of a range with finite ends show.
pub between : {low high x : Float} → T (finite low) → T (finite high) → T (le low x) → T (le x high)
    → Between low high x
unfolding le
between {low} {high} {x} p q h k =
    let r = number low x high p q h k in
    record { above = record { first = p; second = r; order = h }; below = record { first = r; second = q; order = k } }
  where
    number : (a x b : Float) → T (finite a) → T (finite b) → T (le a x) → T (le x b) → T (finite x)
    number nan x b p q h k = absurd p
    number (inf s) x b p q h k = absurd p
    number (fin s m e) x nan p q h k = absurd q
    number (fin s m e) x (inf t) p q h k = absurd q
    number (fin s m e) nan (fin t n d) p q h k = absurd h
    number (fin s m e) (inf true) (fin t n d) p q h k = absurd h
    number (fin s m e) (inf false) (fin t n d) p q h k = absurd k
    number (fin s m e) (fin u o g) (fin t n d) p q h k = tt

pub point : (x : Float) → T (finite x) → Between x x x
point x p = between p p (of-under x x p p (le_refl _)) (of-under x x p p (le_refl _))

-- ---- in each law l and h are the new ends, which are computed
pub whole-between : (f : Format) {k n m : ℕ} {l h : Float} → k ≤ n → n ≤ m → of_int f (pos k) ≡ l → of_int f (pos m) ≡ h
    → T (finite l) → T (finite h) → Between l h (of_int f (pos n))
unfolding of_int
whole-between f {k} {n} {m} a b el eh p q =
    between p q (rw el at (round_mono f k 1 n 1 (lit< tt) (lit< tt) (mul-le-mul_right 1 a)))
    (rw eh at (round_mono f n 1 m 1 (lit< tt) (lit< tt) (mul-le-mul_right 1 b)))

pub sum-between : (f : Format) {a b x c d y l h : Float} → Between a b x → Between c d y → add f a c ≡ l → add f b d ≡ h
    → T (finite l) → T (finite h) → Between l h (add f x y)
sum-between f u v el eh p q =
    between p q (rw el at (sum-grows f u.above v.above)) (rw eh at (sum-grows f u.below v.below))

neg-between : {a b x : Float} → Between a b x → Between (neg b) (neg a) (neg x)
unfolding neg
neg-between {a} {b} {x} u =
    between (still b u.below.second) (still a u.above.first) (le-neg x b u.below.order)
    (le-neg a x u.above.order)
  where
    still : (x : Float) → T (finite x) → T (finite (neg x))
    still nan p = p
    still (inf s) p = p
    still (fin s m e) p = tt

pub difference-between : (f : Format) {a b x c d y l h : Float} → Between a b x → Between c d y → sub f a d ≡ l
    → sub f b c ≡ h → T (finite l) → T (finite h) → Between l h (sub f x y)
unfolding sub
difference-between f u v el eh p q = sum-between f u (neg-between v) el eh p q

pub widen : {a b x l h : Float} → Between a b x → T (finite l) → T (finite h) → T (le l a) → T (le b h) → Between l h x
widen {a} {b} {x} {l} {h} u p q lo hi =
    between p q (le-le l a x p u.above.first u.above.second lo u.above.order)
    (le-le x b h u.below.first u.below.second q u.below.order hi)
