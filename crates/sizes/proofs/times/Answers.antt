-- `sizes::times` meets its contract: a product fits exactly if one factor is at most the largest word divided by the
-- other. Assumes nothing.
use Prim.Native.Nat.{ℕ, ◌≤◌, ◌<◌, ◌*◌, ◌/◌}
use mathlib.Core.Path.{sym}
use native.Mathlib.Nat.{le-div_iff_mul-le, div-lt_iff_lt-mul, min-eq_left, min-eq_right}
use native.Mathlib.Omega.{arith}
use Rattle.sizes.specs.Sizes.{most}
use Rattle.sizes.proofs.times.Goals as goal

within : (a b : ℕ) → 0 < b → a ≤ most / b → a * b ≤ most
within a b some h = (le-div_iff_mul-le some).0 h

past : (a b : ℕ) → 0 < b → most / b < a → most ≤ a * b
past a b some h = let l : most < a * b = (div-lt_iff_lt-mul some).0 h in omega arith

pub returns-then-b-eq0 : goal.returns-then-b-eq0
returns-then-b-eq0 c = rw c.if-b-eq0.true (omega arith)

pub overflow_mul-result : goal.overflow_mul-result
overflow_mul-result c =
    let h = within c.args.a c.args.b (omega arith) (omega arith) in
    omega arith

pub returns-then-a-b : goal.returns-then-a-b
returns-then-a-b c =
    sym (min-eq_left (within c.args.a c.args.b (omega arith) (omega arith)))

pub returns-else-a-b : goal.returns-else-a-b
returns-else-a-b c =
    sym (min-eq_right (past c.args.a c.args.b (omega arith) (omega arith)))
