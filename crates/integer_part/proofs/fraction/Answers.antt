-- `integer_part::fraction` meets its contract: what is subtracted is the floor, as `floored` gives it or as the library
-- converts it. Assumes nothing.
use Rattle.std.proofs.Common.{◌^◌, sym, ap, ◌∙◌, lit≤, w64}
use lib.Ieee.{binary64, neg, sub, of_int, of_bits}
use mir.ValLaws.{to_z-of_z}
use Rattle.magnitude.proofs.OrderAndBounds.{within-at-most}
use Rattle.integer_part.specs.Parts.{fraction_of}
use Rattle.integer_part.proofs.fraction.Goals as goal

pub floored-requires : goal.floored-requires
unfolding neg of_bits
floored-requires c =
    within-at-most (2 ^ 36) _ c.args.x _ (lit≤ tt) (lit≤ tt)
    (sym c.within.ensures ∙ c.if-within.true)

pub returns-then-within : goal.returns-then-within
unfolding fraction_of
returns-then-within c = ap (sub binary64 c.args.x) c.floored.ensures

pub returns-else-within : goal.returns-else-within
unfolding fraction_of
returns-else-within c =
    let integer =
    to_z-of_z w64 c.beyond.result (record { sfits = c.beyond.type_inv })
    ∙ c.beyond.ensures in
    ap (sub binary64 c.args.x)
    (c.nearest_i64_to_f64.ensures ∙ ap (of_int binary64) integer)
