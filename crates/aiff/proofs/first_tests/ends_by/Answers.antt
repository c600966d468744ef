-- `aiff::first_tests::ends_by` meets its contract, without a sum that could overflow. Assumes nothing.
use mathlib.Core.Path.{◌≡◌, refl, sym}
use mathlib.Core.Bool.{Bool, true, false}
use Prim.Native.Nat.{ℕ, ◌+◌, ◌-◌, ◌≤◌}
use native.Mathlib.Omega.{arith}
use borrow.Author.Tests.{le-leb, lt-leb, leb-true, leb-false}
use lib.Dec.{leb}
use Rattle.aiff.proofs.first_tests.ends_by.Goals as goal

moved : (body size end : ℕ) → size ≤ end → leb body (end - size) ≡ leb (body + size) end
moved body size end h = by (leb (body + size) end) refl
  where
    by : (t : Bool) → leb (body + size) end ≡ t → leb body (end - size) ≡ t
    by true e = le-leb body (end - size) (omega (arith, leb-true (body + size) end e))
    by false e = lt-leb body (end - size) (omega (arith, leb-false (body + size) end e))

pub returns-then-end-size : goal.returns-then-end-size
returns-then-end-size c =
    let a = c.args in
    sym (lt-leb (a.body + a.size) a.end (omega arith))

pub returns : goal.returns
returns c = let a = c.args in moved a.body a.size a.end c.if-end-size.false
