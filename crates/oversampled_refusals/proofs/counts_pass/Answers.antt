-- `oversampled_refusals::counts_pass` meets its contract, by the outer number. Assumes nothing.
use borrow.Author.Tests.{le-leb, lt-ltb, le-ltb}
use mathlib.Core.Bool.{Bool, true, false, ◌&&◌}
use mathlib.Core.Path.{◌≡◌, refl}
use native.Mathlib.Nat.{le_of_lt}
use lib.Dec.{leb}
use Prim.Native.Nat.{◌*◌}
use Rattle.oversampled_refusals.specs.Outer.{counts_ok}
use Rattle.oversampled_refusals.proofs.counts_pass.Goals as goal

alone : (b : Bool) → b ≡ b && true
alone true = refl
alone false = refl

never : (b : Bool) → false ≡ b && false
never true = refl
never false = refl

pub returns-then-accepted-lt-OUTER_LIMIT : goal.returns-then-accepted-lt-OUTER_LIMIT
returns-then-accepted-lt-OUTER_LIMIT c h =
    let t = c.if-accepted-lt-OUTER_LIMIT.true in
    let a = c.args in
    rw (c.inner_ok.ensures h, le-leb _ _ (le_of_lt t), lt-ltb _ _ t)
    (alone (leb a.inner (a.factor * a.accepted)))

pub returns : goal.returns
returns c h =
    let a = c.args in
    rw (le-ltb _ _ c.if-accepted-lt-OUTER_LIMIT.false) (never (counts_ok a.factor a.accepted a.inner))

pub inner_ok-requires : goal.inner_ok-requires
inner_ok-requires c = le_of_lt c.if-accepted-lt-OUTER_LIMIT.true
