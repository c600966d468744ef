-- `spelling::is_named` meets its contract: each test is the definition's. Assumes nothing.
use borrow.Author.Tests.{lt-ltb, le-ltb}
use mathlib.Core.Path.{sym}
use native.Mathlib.Omega.{arith}
use lib.Seq.{length-take-le}
use Rattle.spelling.proofs.is_named.Goals as goal

pub returns-then-at-eq0 : goal.returns-then-at-eq0
returns-then-at-eq0 c = let s = c.split-at in rw (← s.ensures.value, le-ltb 0 s.result (omega arith))

pub returns-then-text-at : goal.returns-then-text-at
returns-then-text-at c =
    let s = c.split-at in
    rw (← s.ensures.value, lt-ltb 0 s.result (omega arith), le-ltb s.result _ c.if-text-at.true)

pub returns : goal.returns
returns c =
    let s = c.split-at in
    rw (← s.ensures.value, lt-ltb 0 s.result (omega arith), lt-ltb s.result _ c.if-text-at.false)
    c.all_in_name.ensures

pub slice_bounds-all_in_name-end : goal.slice_bounds-all_in_name-end
slice_bounds-all_in_name-end c = sym (length-take-le _ _ c.split-at.ensures.upper_bound)
