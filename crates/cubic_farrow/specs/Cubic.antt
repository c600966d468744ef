-- K3, K4. 000's CubicFarrow: the four weights of Lagrange's basis for the nodes -1, 0, 1, 2, and the sum, in 000's
-- order, each step rounded. Definitions only.
use Rattle.std.specs.Prelude.{ℕ, false, cond, List, pos, ◌+ℤ◌, ◌-ℤ◌, Float}
use Rattle.std.specs.Float.{Format, fin, binary64}
use Rattle.std.specs.Float.Ieee.{add, sub, mul, div, neg}
pub use Rattle.constants.specs.Numbers.{zero-f, one-f as one, two-f as two}
use Rattle.ring.specs.Taps.{tap_of}
use Rattle.ring.specs.Places.{position_ok}
use Rattle.integer_part.specs.Parts.{floor_of, fraction_of}

abbrev pub six : Float
six = fin false 3 (pos 1)

-- The definitions are over the format, because 000 has the same lines for f64 and for f32 (Draft).
abbrev pub c0 : Format → Float → Float
c0 f mu = div f (mul f (mul f (neg mu) (sub f mu one)) (sub f mu two)) six

abbrev pub c1 : Format → Float → Float
c1 f mu = div f (mul f (mul f (add f mu one) (sub f mu one)) (sub f mu two)) two

abbrev pub c2 : Format → Float → Float
c2 f mu = div f (mul f (mul f (neg (add f mu one)) mu) (sub f mu two)) two

abbrev pub c3 : Format → Float → Float
c3 f mu = div f (mul f (mul f (add f mu one) mu) (sub f mu one)) six

abbrev pub weighed : Format → Float → Float → Float → Float → Float → Float
weighed f mu xm1 x0 x1 x2 =
    add f (add f (add f (mul f xm1 (c0 f mu)) (mul f x0 (c1 f mu))) (mul f x1 (c2 f mu))) (mul f x2 (c3 f mu))

-- K3. The reading at a position with the integer part i and the fraction mu, from the taps i - 1 to i + 2.
unfoldable pub cubic_at : List Float → ℕ → Float → Float
cubic_at xs count p =
    let i = floor_of p in
    weighed binary64 (fraction_of p) (tap_of xs count (i -ℤ pos 1)) (tap_of xs count i) (tap_of xs count (i +ℤ pos 1))
    (tap_of xs count (i +ℤ pos 2))

-- G3. Outside the range of positions `read` gives zero, and `sample` refuses by 1.
abbrev pub read_of : List Float → ℕ → Float → Float
read_of xs count p = cond (position_ok p) (cubic_at xs count p) zero-f
