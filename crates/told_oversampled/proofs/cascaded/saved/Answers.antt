-- `told_oversampled::cascaded::saved` meets its contract, by its tests. Assumes nothing.
use Rattle.std.proofs.Common.{◌≡◌, ◌^◌, ◌<◌, Bool, true, false, cond, ◌&&◌, ltb, length, refl, arith, le-ltb, lt-ltb}
use Rattle.std.proofs.Common.{eq-eqb, ne_eqb}
use borrow.Author.Rules.{scaled_Fits}
use lib.Ieee.{Float, of_bits}
use Rattle.constants.specs.Numbers.{zero-f}
use Rattle.ring.proofs.RunStartWays.{place_inside}
use Rattle.told_oversampled.proofs.cascaded.saved.Goals as goal
use Rattle.told_oversampled.proofs.cascaded.saved.Goals.{After-place}

pub returns-then-accepted-ge17179869184 : goal.returns-then-accepted-ge17179869184
unfolding of_bits
returns-then-accepted-ge17179869184 c = rw (le-ltb _ _ c.if-accepted-ge17179869184.true)

neither : (x : Float) (b : Bool) → zero-f ≡ cond (b && false) x zero-f
neither x true = refl
neither x false = refl

pub returns-then-up2-eq0 : goal.returns-then-up2-eq0
unfolding of_bits
returns-then-up2-eq0 c =
    rw (eq-eqb _ _ c.if-up2-eq0.true) (neither _ (ltb c.args.accepted (2 ^ 34)))

inside : (c : After-place) → c.place.result < length c.args.up2.now
inside c = place_inside _ _ (omega arith) c.place.ensures

pub offset_bounds-up2-place : goal.offset_bounds-up2-place
offset_bounds-up2-place c = scaled_Fits _ _ 8 (inside c) c.well_formed.0.1

pub bounds-up2-place : goal.bounds-up2-place
bounds-up2-place c = inside (goal.at.bounds-up2-place c).After-place

low : (c : After-place) → c.args.accepted < 2 ^ 34
low c = omega arith

pub returns : goal.returns
returns c =
    rw (c.place.ensures, ne_eqb _ _ c.if-up2-eq0.false, lt-ltb _ _ (low (goal.at.returns c).After-place))
