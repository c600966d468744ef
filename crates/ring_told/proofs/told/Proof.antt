-- `ring_told::told` meets its contract: one law of `FourCases` for each return. Assumes nothing.
use borrow.Author.Rules.{rules, scaled_Fits}
use mathlib.Core.Path.{◌≡◌, ap}
use Prim.Native.Nat.{◌<◌}
use native.Mathlib.Omega.{arith}
use lib.ListN.{length}
use mir.Syntax.{w64}
use mir.Val.{to_z, of_z}
use mir.ValLaws.{to_z-of_z}
use Rattle.ring.proofs.RunStartWays.{fits, place_inside}
use Rattle.ring_told.specs.Told.{told_of}
use Rattle.ring_told.proofs.FourCases as four
use Rattle.ring_told.proofs.told.Statement.{statement}
use Rattle.ring_told.proofs.told.Tie as tie

-- The index as the code holds it.
word : (c : tie.Start) → to_z w64 (of_z w64 c.args.index) ≡ c.args.index
word c = to_z-of_z w64 c.args.index c.ranges.index

returns : tie.Need-returns-then-index-lt0
returns c =
    let s = c.before.before in
    ap told_of (four.below-zero s.args.source.now _ _ (word s) c.if-index-lt0.true)

cast-k : tie.Need-overflow_cast-k
cast-k c = fits _ c.before.before.ranges.index c.if-index-lt0.false

returns-2 : tie.Need-returns-then-count-k
returns-2 c =
    let t = c.before in
    let s = t.before.before in
    ap told_of (four.not-there-yet s.args.source.now _ _ (word s) t.if-index-lt0.false (omega arith))

returns-3 : tie.Need-returns-then-count-k-2
returns-3 c =
    let t = c.before.before in
    let s = t.before.before in
    ap told_of (four.gone s.args.source.now _ _ (word s) t.if-index-lt0.false (omega arith) (omega arith))

-- The place of a tap that is held lies inside the ring.
inside : (c : tie.After-place-at)
    → c.place-at.result < length c.before.before.before.before.before.args.source.now
inside c = place_inside _ _ (omega arith) c.place-at.ensures

mul-t9 : tie.Need-offset_bounds-source-at
mul-t9 c = scaled_Fits _ _ 8 (inside c) c.before.before.before.before.before.well_formed.0.1

returns-4 : tie.Need-returns
returns-4 c =
    let p = c.before in
    let t = p.before.before.before in
    let s = t.before.before in
    ap told_of
    (four.kept s.args.source.now _ _ (word s) t.if-index-lt0.false (omega arith) (omega arith) p.place-at.ensures)

pub told_spec : {M : Type 1} → statement M
told_spec =
    tie.close (tie.spec returns cast-k returns-2 (λ c. search rules) (λ c. search rules) returns-3
    (λ c κs. search rules) mul-t9 (λ c. inside c.before) returns-4)
