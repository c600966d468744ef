-- `quality_codes::draft::read` meets its contract: the mask gives a place inside the ring, and the count is small, so
-- that both casts are exact. Assumes nothing.
use borrow.Author.Rules.{scaled_Fits}
use mathlib.Core.Path.{◌≡◌, ◌∙◌}
use Prim.Native.Nat.{◌-◌, ◌<◌}
use native.Mathlib.Nat.{mod-lt}
use native.Mathlib.Omega.{arith}
use lib.Bits.{bit_and}
use lib.IntN.{pos}
use lib.ListN.{length}
use mir.Syntax.{w64}
use mir.Val.{to_z}
use mir.ValLaws.{to_z-of_z}
use Rattle.integer_part.proofs.FloorInside.{in-float}
use Rattle.quality_codes.proofs.draft.read.Goals as goal
use Rattle.quality_codes.proofs.draft.read.Goals.{After-row_known-1, Start}

inside : (c : Start) → bit_and c.args.i (length c.args.ring.now - 1) < length c.args.ring.now
inside c = rw c.requires.2 (mod-lt _ c.requires.1)

pub offset_bounds-ring-at : goal.offset_bounds-ring-at
offset_bounds-ring-at c = scaled_Fits _ _ 4 (inside (goal.at.offset_bounds-ring-at c).Start) c.well_formed.1.0.1

pub bounds-ring-at : goal.bounds-ring-at
bounds-ring-at c = inside (goal.at.bounds-ring-at c).Start

pub overflow_cast-i : goal.overflow_cast-i
overflow_cast-i c = record { sfits = omega (arith, c.requires.0) }

count-is : (c : After-row_known-1)
    → to_z w64 c.args.i ≡ pos c.args.i
count-is c = to_z-of_z w64 (pos _) (overflow_cast-i c.before)

pub int_to_float-i : goal.int_to_float-i
int_to_float-i c =
    rw (count-is c) (in-float (pos c.args.i) (omega (arith, c.requires.0)))

pub returns : goal.returns
returns c =
    let p = c.requires in
    record {
      value = c.read.ensures ∙ rw (count-is (goal.at.returns c).After-row_known-1, p.2, p.3);
      ring_after =
          rw p.2;
    }
