-- `square_root::root_digits` meets its contract. The loop's invariant is `Down`: what has been brought down, and the
-- root of it. Assumes nothing.
use Rattle.std.proofs.Common.{◌+◌, ◌*◌, ◌/◌, ◌^◌, ◌≤◌, arith}
use Rattle.square_root.proofs.Restoring.{start, short-55, stepped, next, found}
use Rattle.square_root.proofs.root_digits.Goals as goal
use Rattle.square_root.proofs.root_digits.Goals.{After-digit-d}

pub loop-init : goal.loop-init
loop-init c = start c.args.z (omega arith)

pub overflow_mul-a : goal.overflow_mul-a
overflow_mul-a c = omega (arith, short-55 c.loop.invariant)

pub overflow_add-a : goal.overflow_add-a
overflow_add-a c = omega (arith, short-55 c.loop.invariant)

pub overflow_mul-t : goal.overflow_mul-t
overflow_mul-t c = omega (arith, short-55 c.loop.invariant)

pub overflow_add-t : goal.overflow_add-t
overflow_add-t c = omega (arith, short-55 c.loop.invariant)

-- What the new digit takes off, and that it is a digit.
taken : (c : After-digit-d) →
    (c.digit-d.result ≤ 1) × (c.digit-d.result * (c.loop.s * 4 + 1) ≤ c.loop.r * 4 + c.loop.y / 2 ^ 62)
taken c =
    let f = stepped c.loop.s (c.loop.r * 4 + c.loop.y / 2 ^ 62) c.digit-d.result (omega arith) c.digit-d.ensures in
    (f.0, f.1)

pub overflow_mul-s : goal.overflow_mul-s
overflow_mul-s c = omega (arith, short-55 c.loop.invariant)

pub overflow_add-s : goal.overflow_add-s
overflow_add-s c = omega (arith, short-55 c.loop.invariant, (taken (goal.at.overflow_add-s c).After-digit-d).0)

pub overflow_mul-r : goal.overflow_mul-r
overflow_mul-r c = omega (arith, short-55 c.loop.invariant, (taken (goal.at.overflow_mul-r c).After-digit-d).1)

pub overflow_sub-r : goal.overflow_sub-r
overflow_sub-r c = (taken (goal.at.overflow_sub-r c).After-digit-d).1

pub loop-preserved : goal.loop-preserved
loop-preserved c =
    let l = c.loop in
    next c.args.z l.s l.r l.y l.counter c.digit-d.result (omega arith) c.digit-d.ensures l.invariant

pub returns : goal.returns
returns c =
    let l = c.loop in
    rw c.sticky.ensures (found c.args.z l.s l.r l.y l.counter c.requires (omega arith) l.invariant)
