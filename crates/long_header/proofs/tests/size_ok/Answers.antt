-- `long_header::tests::size_ok` meets its contract: a count above 2^40 has more bytes than that. Assumes nothing.
use mathlib.Core.Path.{sym}
use Prim.Native.Nat.{◌*◌, ◌^◌}
use native.Mathlib.Omega.{arith}
use borrow.Author.Tests.{lt-leb}
use Rattle.sample_kind.specs.Kinds.{width_of}
use Rattle.long_header.proofs.Bounds.{many, few}
use Rattle.long_header.proofs.tests.size_ok.Goals as goal

pub returns-then-count-gt1099511627776 : goal.returns-then-count-gt1099511627776
returns-then-count-gt1099511627776 c =
    let a = c.args in
    sym (lt-leb (a.count * width_of a.kind) (2 ^ 40) (many a.kind a.count c.if-count-gt1099511627776.true))

pub overflow_mul-result : goal.overflow_mul-result
overflow_mul-result c =
    let a = c.args in
    rw c.width.ensures (omega (arith, few a.kind a.count c.if-count-gt1099511627776.false))

pub returns : goal.returns
returns c = rw c.width.ensures
