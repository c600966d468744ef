-- G3. A position is in range exactly if it is a number of magnitude at most 2 ^ 36. Assumes nothing.
use mathlib.Core.Path.{◌≡◌, refl}
use mathlib.Core.Bool.{true, false}
use Prim.Native.Nat.{◌^◌}
use lib.Dec.{lit≤}
use lib.IntN.{pos}
use lib.Ieee.{Float, fin, le}
use lib.Ieee.Bits.{is_true}
use lib.Ieee.Fits.{and_l, and_r, and_i}
use denote.Floats.{passes}
use Rattle.magnitude.specs.Bounds.{AtMost}
use Rattle.magnitude.proofs.OrderAndBounds.{between-at-most, at-most-le, at-most-ge}
use Rattle.ring.specs.Places.{position_ok}

abbrev low : Float
low = fin true 1 (pos 36)

abbrev high : Float
high = fin false 1 (pos 36)

pub position-at-most : (p : Float) → position_ok p ≡ true → AtMost (2 ^ 36) p
position-at-most p h =
    let t = passes (position_ok p) h in
    between-at-most (2 ^ 36) low p high (lit≤ tt) (lit≤ tt) (and_l (le low p) (le p high) t)
    (and_r (le low p) (le p high) t)

pub at-most-position : (p : Float) → AtMost (2 ^ 36) p → position_ok p ≡ true
at-most-position p h =
    is_true (position_ok p)
    (and_i (le low p) (le p high) (at-most-ge (2 ^ 36) p low (refl, refl) h)
    (at-most-le (2 ^ 36) p high (refl, refl) h))
