-- `report_tests::at_least` meets its contract: a high half above 0 exceeds every word. Assumes nothing.
use mathlib.Core.Path.{sym}
use Prim.Native.Nat.{◌+◌, ◌*◌}
use native.Mathlib.Omega.{arith}
use borrow.Author.Tests.{le-leb}
use Rattle.report_tests.proofs.WideSums.{low-alone}
use Rattle.report_tests.proofs.at_least.Goals as goal

pub returns-then-high-gt0 : goal.returns-then-high-gt0
returns-then-high-gt0 c = let a = c.args in sym (le-leb a.square (a.high * 18446744073709551616 + a.low) (omega arith))

pub returns-else-high-gt0 : goal.returns-else-high-gt0
returns-else-high-gt0 c = low-alone c.args.high c.args.low c.args.square c.if-high-gt0.false
