-- `integer_part::floor` meets its contract: within ±2 ^ 36 `floored` has the floor as a float, which a cast gives back,
-- and outside `beyond` has it. Assumes nothing.
use Rattle.std.proofs.Common.{◌^◌, ◌≤◌, sym, ap, ◌∙◌, le_trans, lit<, lit≤, w64, rules}
use lib.Signed.{mag}
use lib.Ieee.{neg, of_bits, to_signed}
use lib.Ieee.Casts.{to_signed_in}
use mir.ValLaws.{to_z-of_z}
use Rattle.magnitude.specs.Bounds.{AtMost}
use Rattle.magnitude.proofs.OrderAndBounds.{within-at-most}
use Rattle.integer_part.specs.Parts.{floor_of}
use Rattle.integer_part.proofs.WholeThroughFloat.{cast-back}
use Rattle.integer_part.proofs.Floors.{floor-mag}
use Rattle.integer_part.proofs.floor.Statement.{statement}
use Rattle.integer_part.proofs.floor.Tie as tie

small : (c : tie.Then-within) → AtMost (2 ^ 36) c.before.before.args.x
unfolding neg of_bits
small c =
    within-at-most (2 ^ 36) _ c.before.before.args.x _ (lit≤ tt) (lit≤ tt)
    (sym c.before.within.ensures ∙ c.if-within.true)

floored-requires : tie.Need-floored-requires
floored-requires c κs = small c

held : (c : tie.After-row_known-1) → mag (floor_of c.before.before.before.before.args.x) ≤ 2 ^ 52
held c = le_trans (floor-mag (2 ^ 36) _ (lit< tt) (small c.before.before)) (lit≤ tt)

float-to-int-result : tie.Need-float_to_int-result
float-to-int-result c = rw c.before.floored.ensures (cast-back _ (held c)).0

returns : tie.Need-returns-then-within
returns c =
    to_z-of_z w64 _ (record { sfits = to_signed_in 63 c.before.floored.result })
    ∙ ap (to_signed 63) c.before.floored.ensures
    ∙ (cast-back _ (held c)).1

pub floor_spec : {M : Type 1} → statement M
floor_spec =
    tie.close (tie.spec (λ c κs. search rules) floored-requires float-to-int-result (λ c κs. search rules) returns
    (λ c. search rules))
