-- The quintic of a position from 0 to 1 lies from 0 to 1.25. It is shown piece by piece: on a piece each operation
-- keeps the order, so its ends bound it. Assumes nothing.
use mathlib.Core.Path.{refl}
use mathlib.Core.Bool.{Bool}
use mathlib.Core.List.{List, [], ◌∷◌}
use Prim.Native.Nat.{ℕ}
use lib.Count.{count_trailing_zeros}
use lib.Dec.{T}
use lib.IntN.{pos}
use lib.Ieee.{Float, binary64, size, span, climb, odd, units, round, neg, sum, add, sub, mul, div, lt, eq, le, of_int}
use lib.Ieee.{of_fields, of_bits}
use lib.Ieee.Scale.{finite}
use Rattle.interval.proofs.Between.{Between, point, widen, sum-between, difference-between}
use Rattle.interval.proofs.Products.{zero as nil, least, most, product-between}
use Rattle.interval.proofs.Pieces.{all, all_of, passed, pieces}
use Rattle.xorshift.specs.Draws.{zero, one}
use Rattle.smooth_random.specs.Drift.{quintic_of}

-- The bound 1.25, and the numbers of the quintic.
abbrev pub bound : Float
bound = of_bits binary64 0x3ff4_0000_0000_0000

abbrev six : Float
six = of_bits binary64 0x4018_0000_0000_0000

abbrev fifteen : Float
fifteen = of_bits binary64 0x402e_0000_0000_0000

abbrev ten : Float
ten = of_bits binary64 0x4024_0000_0000_0000

-- The tests of a piece from a to b: the ends of every operation are finite, no first factor is negative, and the last
-- ends lie from 0 to 1.25.
tests : Float → Float → List Bool
unfolding sub add mul le
tests a b =
    let a2 = least binary64 a b a in
    let b2 = most binary64 a b b in
    let a3 = least binary64 a2 b2 a in
    let b3 = most binary64 a2 b2 b in
    let a6 = least binary64 a b six in
    let b6 = most binary64 a b six in
    let s = sub binary64 a6 fifteen in
    let s' = sub binary64 b6 fifteen in
    let p = least binary64 a b s in
    let p' = most binary64 a b s' in
    let i = add binary64 p ten in
    let i' = add binary64 p' ten in
    let q = least binary64 a3 b3 i in
    let q' = most binary64 a3 b3 i' in
    le nil a ∷ le nil a2 ∷ le nil a3 ∷ finite a2 ∷ finite b2 ∷ finite a3 ∷ finite b3 ∷ finite a6 ∷ finite b6 ∷ finite s
    ∷ finite s' ∷ finite p ∷ finite p' ∷ finite i ∷ finite i' ∷ finite q ∷ finite q' ∷ le zero q ∷ le q' bound ∷ []

piece : (a b t : Float) → T (all (tests a b)) → Between a b t → Between zero bound (quintic_of t)
unfolding quintic_of tests count_trailing_zeros odd of_fields of_bits
piece a b t h u =
    let k = all_of (tests a b) h in
    let f = k.1.1.1 in
    let g = f.1.1.1.1 in
    let m = g.1.1.1.1 in
    let w = m.1.1.1.1 in
    let square = product-between binary64 k.0 u u refl refl f.0 f.1.0 in
    let cube = product-between binary64 k.1.0 square u refl refl f.1.1.0 f.1.1.1.0 in
    let sixfold = product-between binary64 k.0 u (point six tt) refl refl g.0 g.1.0 in
    let less = difference-between binary64 sixfold (point fifteen tt) refl refl g.1.1.0 g.1.1.1.0 in
    let inner =
    sum-between binary64 (product-between binary64 k.0 u less refl refl m.0 m.1.0)
    (point ten tt) refl refl m.1.1.0 m.1.1.1.0 in
    widen (product-between binary64 k.1.1.0 cube inner refl refl w.0 w.1.0) tt tt w.1.1.0
    w.1.1.1.0

-- The ends of the pieces, in 64ths. They are narrower towards 1, where the cube grows while the other factor shrinks.
abbrev part : ℕ → Float
part n = div binary64 (of_int binary64 (pos n)) (of_int binary64 (pos 64))

abbrev ends : List Float
ends =
    part 41 ∷ part 46 ∷ part 50 ∷ part 53 ∷ part 55 ∷ part 57 ∷ part 59 ∷ part 60 ∷ part 61 ∷ part 62 ∷ part 63 ∷ one
    ∷ []

checked : T (passed (λ a b. all (tests a b)) zero (part 32) ends)
unfolding tests count_trailing_zeros size span climb odd units round neg sum add sub mul div lt eq le of_int of_fields
    of_bits
checked = tt

pub quintic-between : (t : Float) → Between zero one t → Between zero bound (quintic_of t)
quintic-between t u =
    pieces (λ x. Between zero bound (quintic_of x)) (λ a b. all (tests a b)) piece zero (part 32) ends t checked u
