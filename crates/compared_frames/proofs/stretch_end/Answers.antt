-- `compared_frames::stretch_end` meets its contract, by `Stretches`. Assumes nothing.
use borrow.Author.Tests.{lt-ltb, le-ltb, le-leb, lt-leb}
use native.Mathlib.Omega.{arith}
use Rattle.compared_frames.specs.Compared.{end_of}
use Rattle.compared_frames.proofs.Stretches.{end_is, quotient-small, rest-small, sum-small}
use Rattle.compared_frames.proofs.stretch_end.Goals as goal

pub returns-then-n-eq0 : goal.returns-then-n-eq0
unfolding end_of
returns-then-n-eq0 c =
    let s = c.args in
    rw (le-ltb s.k s.n (omega arith))

pub returns-then-k-n : goal.returns-then-k-n
unfolding end_of
returns-then-k-n c =
    let s = c.args in
    rw (le-ltb s.k s.n (omega arith))

pub returns-then-n-gt1000 : goal.returns-then-n-gt1000
unfolding end_of
returns-then-n-gt1000 c =
    let s = c.args in
    rw (lt-ltb s.k s.n (omega arith), lt-leb s.n 1000 (omega arith))

pub overflow_mul-result : goal.overflow_mul-result
overflow_mul-result c =
    let s = c.args in
    omega (arith, quotient-small s.frames s.n s.k (omega arith) (omega arith))

pub overflow_mul-result-2 : goal.overflow_mul-result-2
overflow_mul-result-2 c =
    let s = c.args in
    omega (arith, rest-small s.frames s.n s.k (omega arith) (omega arith) (omega arith))

pub overflow_add-result : goal.overflow_add-result
overflow_add-result c =
    let s = c.args in
    omega (arith, sum-small s.frames s.n s.k (omega arith) (omega arith))

pub returns : goal.returns
unfolding end_of
returns c =
    let s = c.args in
    rw (lt-ltb s.k s.n (omega arith), le-leb s.n 1000 (omega arith))
    (end_is s.frames s.n s.k (omega arith))
