-- `quality_variable_delay::storing::store` meets its contract: the place lies inside the ring, and the count is small,
-- so that both casts are exact. Assumes nothing.
use Rattle.std.proofs.Common.{◌≡◌, ◌<◌, length, pos, ◌∙◌, arith, w64, to_z}
use borrow.Author.Rules.{scaled_Fits}
use mir.ValLaws.{to_z-of_z}
use Rattle.integer_part.proofs.FloorInside.{in-float}
use Rattle.ring.proofs.RunStartWays.{place-mod, place_inside}
use Rattle.quality_variable_delay.proofs.storing.store.Goals as goal
use Rattle.quality_variable_delay.proofs.storing.store.Goals.{After-place-at, After-row_known-1}

inside : (c : After-place-at) → c.place-at.result < length c.args.ring.now
inside c = place_inside _ _ c.requires.1 c.place-at.ensures

pub offset_bounds-ring-at : goal.offset_bounds-ring-at
offset_bounds-ring-at c = scaled_Fits _ _ 4 (inside c) c.well_formed.1.0.1

pub bounds-ring-at : goal.bounds-ring-at
bounds-ring-at c = inside c

pub overflow_cast-result : goal.overflow_cast-result
overflow_cast-result c = record { sfits = omega (arith, c.requires.0) }

count-is : (c : After-row_known-1)
    → to_z w64 c.args.i ≡ pos c.args.i
count-is c = to_z-of_z w64 (pos _) (overflow_cast-result c.before)

pub int_to_float-result : goal.int_to_float-result
int_to_float-result c =
    rw (count-is c) (in-float (pos c.args.i) (omega (arith, c.requires.0)))

pub returns : goal.returns
returns c =
    let p = c.place-at.ensures ∙ place-mod _ _ c.requires.1 in
    record { value = rw (count-is c); ring_after = rw p }
