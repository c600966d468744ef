-- `told_call::position_of` meets its contract: a small count is cast exactly, and any other is rounded. Assumes
-- nothing.
use Rattle.std.proofs.Common.{pos, arith, w64}
use mir.ValLaws.{to_z-of_z}
use Rattle.integer_part.proofs.FloorInside.{in-float}
use Rattle.told_call.proofs.position_of.Goals as goal

pub overflow_cast-result : goal.overflow_cast-result
overflow_cast-result c = record { sfits = omega (arith, c.if-before-lt-LIMIT.true) }

pub int_to_float-result : goal.int_to_float-result
int_to_float-result c =
    rw (to_z-of_z w64 (pos c.args.before) (record { sfits = omega (arith, c.if-before-lt-LIMIT.true) }))
    (in-float (pos c.args.before) (omega (arith, c.if-before-lt-LIMIT.true)))

pub returns-then-before-lt-LIMIT : goal.returns-then-before-lt-LIMIT
returns-then-before-lt-LIMIT c =
    rw (to_z-of_z w64 (pos c.args.before) (record { sfits = omega (arith, c.if-before-lt-LIMIT.true) }))

pub returns : goal.returns
returns c = rw c.nearest_u64_to_f64.ensures
