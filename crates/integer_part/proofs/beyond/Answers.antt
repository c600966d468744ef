-- `integer_part::beyond` meets its contract: within ±2 ^ 52 `stepped` has the floor, and outside the cast is the floor.
-- Assumes nothing.
use Rattle.std.proofs.Common.{◌^◌, sym, ◌∙◌, lit≤, w64}
use denote.Floats.{passes}
use lib.Ieee.{neg, of_bits, fits, binary64}
use mir.ValLaws.{to_z-of_z}
use Rattle.magnitude.proofs.OrderAndBounds.{within-at-most}
use Rattle.integer_part.proofs.FloorOfLarge.{beyond}
use Rattle.integer_part.proofs.beyond.Goals as goal

pub stepped-requires : goal.stepped-requires
unfolding neg of_bits
stepped-requires c =
    within-at-most (2 ^ 52) _ c.args.x _ (lit≤ tt) (lit≤ tt)
    (sym c.within.ensures ∙ c.if-within.true)

pub returns-else-within : goal.returns-else-within
unfolding neg of_bits
returns-else-within c =
    to_z-of_z w64 c.truncated.result (record { sfits = c.truncated.type_inv })
    ∙ c.truncated.ensures
    ∙ beyond c.args.x (passes (fits binary64 c.args.x) c.well_formed.0.1)
    (sym c.within.ensures ∙ c.if-within.false)
