-- `delay_words::whole_above` meets its contract. The loop's invariant is that the least number from n on is the one
-- sought. Assumes nothing.
use mathlib.Core.Path.{◌≡◌, refl, sym, ◌∙◌}
use Prim.Native.Nat.{◌+◌, ◌-◌, ◌^◌}
use native.Mathlib.Numerals.{add-one}
use native.Mathlib.Omega.{arith}
use lib.Dec.{le→leb}
use lib.Ieee.{in_float}
use Rattle.delay_words.proofs.Least.{found, later, ended}
use Rattle.delay_words.proofs.whole_above.Goals as goal

pub int_to_float-n : goal.int_to_float-n
unfolding in_float
int_to_float-n c = le→leb c.loop-n.n (2 ^ 53) (omega arith)

pub returns-then-x-n : goal.returns-then-x-n
returns-then-x-n c =
    let l = c.loop-n in
    let x = c.args.x in
    sym (l.invariant ∙ found (65535 - l.n) l.n x (omega arith) c.if-x-n.true)

pub loop-n-preserved : goal.loop-n-preserved
loop-n-preserved c =
    let l = c.loop-n in
    let x = c.args.x in
    let e : 65536 - (l.n + 1) ≡ 65535 - l.n = omega arith in
    rw (e, add-one) (l.invariant ∙ later (65535 - l.n) l.n x (omega arith) c.if-x-n.false)

pub returns : goal.returns
returns c =
    let l = c.loop-n in
    let e : l.n ≡ 65536 = omega arith in
    sym (l.invariant ∙ ended l.n c.args.x (omega arith) ∙ e)

pub loop-n-init : goal.loop-n-init
loop-n-init c = refl
