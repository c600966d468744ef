-- M5. The value of a valid state lies from -2 to 2, so that half of it, times a drift from 0 to 1, is an exponent that
-- exp2 accepts. It is shown for pieces of the current target, since the way to the next one shrinks as that one grows.
-- Assumes nothing.
use mathlib.Core.Path.{refl}
use mathlib.Core.Bool.{Bool}
use mathlib.Core.List.{List, [], ◌∷◌}
use lib.Count.{count_trailing_zeros}
use lib.Dec.{T}
use lib.Ieee.{Float, binary64, size, span, climb, odd, units, round, neg, sum, add, sub, mul, lt, eq, le, of_fields}
use lib.Ieee.{of_bits}
use lib.Ieee.Scale.{finite}
use Rattle.magnitude.proofs.Comparisons.{finite_number}
use Rattle.min_max.specs.Choice.{clamped}
use Rattle.min_max.proofs.Clamps.{clamped-ge, clamped-le}
use Rattle.interval.proofs.Between.{Between, between, widen, sum-between, difference-between}
use Rattle.interval.proofs.Products.{least, most, product-between}
use Rattle.interval.proofs.Pieces.{all, all_of, passed, pieces}
use Rattle.xorshift.specs.Draws.{zero, one, two}
use Rattle.smooth_random.specs.Ranges.{valid_of}
use Rattle.smooth_random.specs.Drift.{quintic_of, value_at}
use Rattle.smooth_random.specs.declared.SmoothRandom.{SmoothRandom}
use Rattle.smooth_random.proofs.ValidFields.{held}
use Rattle.smooth_random.proofs.LoopEnds.{position_in}
use Rattle.smooth_random.proofs.Quintic.{bound, quintic-between}

-- The tests of a piece of the current target: for the way to the next one, the part of it, and the value.
tests : Float → Float → List Bool
unfolding sub add mul le
tests a b =
    let d = sub binary64 (neg one) b in
    let d' = sub binary64 one a in
    let m = least binary64 zero bound d in
    let m' = most binary64 zero bound d' in
    let v = add binary64 a m in
    let v' = add binary64 b m' in
    finite d ∷ finite d' ∷ finite m ∷ finite m' ∷ finite v ∷ finite v' ∷ le (neg two) v ∷ le v' two ∷ []

half : Float
half = of_bits binary64 0x3fe0_0000_0000_0000

checked : T (passed (λ a b. all (tests a b)) (neg one) (neg half) (zero ∷ half ∷ one ∷ []))
unfolding tests half count_trailing_zeros size span climb odd units round neg sum add sub mul lt eq le of_fields of_bits
checked = tt

module _ (q n : Float) (u : Between zero bound q) (v : Between (neg one) one n) where
  piece : (a b x : Float) → T (all (tests a b)) → Between a b x
      → Between (neg two) two (add binary64 x (mul binary64 q (sub binary64 n x)))
  unfolding tests count_trailing_zeros odd neg lt eq le of_fields of_bits
  piece a b x h w =
      let k = all_of (tests a b) h in
      let f = k.1.1 in
      let g = f.1.1 in
      let way = difference-between binary64 v w refl refl k.0 k.1.0 in
      let part = product-between binary64 tt u way refl refl f.0 f.1.0 in
      widen (sum-between binary64 w part refl refl g.0 g.1.0) tt tt g.1.1.0 g.1.1.1.0

  on-the-way : (x : Float) → Between (neg one) one x
      → Between (neg two) two (add binary64 x (mul binary64 q (sub binary64 n x)))
  on-the-way x =
      pieces (λ x. Between (neg two) two (add binary64 x (mul binary64 q (sub binary64 n x))))
      (λ a b. all (tests a b)) piece (neg one) (neg half) (zero ∷ half ∷ one ∷ []) x checked

pub value-between : (r : SmoothRandom) → T (valid_of r) → Between (neg two) two (value_at r)
unfolding value_at count_trailing_zeros odd lt eq le of_fields of_bits
value-between r h =
    let k = held r h in
    let number = finite_number r.position (position_in r k).below.first in
    let t : Between zero one (clamped r.position zero one) =
    between tt tt (clamped-ge r.position zero one number tt) (clamped-le r.position zero one number tt) in
    on-the-way (quintic_of (clamped r.position zero one)) r.next
    (quintic-between (clamped r.position zero one) t) k.next-in r.current k.current-in
