-- `woven::woven_at` meets its contract, by whether the place is even. Assumes nothing.
use borrow.Author.Tests.{eq-eqb, ne_eqb}
use Prim.Native.Nat.{◌%◌}
use Rattle.woven.specs.Woven.{woven_at}
use Rattle.woven.proofs.woven_at.Goals as goal

pub returns-then-k-eq0 : goal.returns-then-k-eq0
unfolding woven_at
returns-then-k-eq0 c =
    let s = c.args in
    rw (eq-eqb (s.k % 2) 0 c.if-k-eq0.true) c.sample_at.ensures

pub returns : goal.returns
unfolding woven_at
returns c =
    let s = c.args in
    rw (ne_eqb (s.k % 2) 0 c.if-k-eq0.false) c.sample_at-2.ensures
