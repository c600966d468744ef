-- `report_tests::fits` meets its contract. Assumes nothing.
use mathlib.Core.Path.{sym}
use Prim.Native.Nat.{◌+◌, ◌-◌}
use native.Mathlib.Omega.{arith}
use borrow.Author.Tests.{lt-leb}
use Rattle.report_tests.proofs.WideSums.{same_test}
use Rattle.report_tests.proofs.fits.Goals as goal

pub returns-then-number-gt-LIMIT : goal.returns-then-number-gt-LIMIT
returns-then-number-gt-LIMIT c = let a = c.args in sym (lt-leb (a.number + a.more) 68719476736 (omega arith))

pub returns : goal.returns
returns c =
    let a = c.args in
    same_test a.more (68719476736 - a.number) (a.number + a.more) 68719476736 (λ h. omega arith)
    (λ h. omega arith)
