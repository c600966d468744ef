-- `decibels::range::differs` meets its contract, by the test of the high half. Assumes nothing.
use mathlib.Core.Path.{◌≡◌, sym}
use Prim.Native.Nat.{◌+◌, ◌*◌}
use native.Mathlib.Nat.{zero-add}
use native.Mathlib.Omega.{arith}
use borrow.Author.Tests.{lt-ltb}
use Rattle.decibels.proofs.range.differs.Goals as goal

pub returns-then-high-gt0 : goal.returns-then-high-gt0
returns-then-high-gt0 c =
    let a = c.args in
    sym (lt-ltb 0 (a.high * 18446744073709551616 + a.low) (omega arith))

pub returns : goal.returns
returns c =
    let z : c.args.high ≡ 0 = omega arith in
    rw (z, zero-add)
