-- `stretch_absent::absent_in` meets its contract: the loop adds item by item, and no sum can overflow. Assumes nothing.
use mathlib.Core.Path.{◌∙◌}
use native.Mathlib.Omega.{arith}
use Rattle.stretch_absent.proofs.Added.{begun, least, one_more, ended, too-many-taps, too-many-items}
use Rattle.stretch_absent.proofs.absent_in.Goals as goal

pub returns-then-taps-gt-MOST : goal.returns-then-taps-gt-MOST
returns-then-taps-gt-MOST c =
    let a = c.args in
    c.nothing.ensures ∙ too-many-taps a.len a.before a.delays.now a.done a.taps (omega arith)

pub returns-then-before-gt-LIMIT : goal.returns-then-before-gt-LIMIT
returns-then-before-gt-LIMIT c =
    let a = c.args in
    c.nothing-then-before-gt-LIMIT.ensures ∙ too-many-items a.len a.before a.delays.now a.done a.taps (omega arith)

pub returns-then-n-before : goal.returns-then-n-before
returns-then-n-before c =
    let f = c.min-n.ensures in
    let a = c.args in
    c.nothing-then-n-before.ensures ∙ too-many-items a.len a.before a.delays.now a.done a.taps (omega (arith, f))

pub loop-k-init : goal.loop-k-init
loop-k-init c = begun _ _ _ _ _ c.min-n.ensures (omega arith) (omega arith)

pub overflow_add-i : goal.overflow_add-i
overflow_add-i c = let w = c.loop-k.invariant in omega (arith, w.bound)

pub overflow_add-i-in-loop-k : goal.overflow_add-i-in-loop-k
overflow_add-i-in-loop-k c = let w = c.loop-k.invariant in omega (arith, w.bound)

pub bounds-delays-k : goal.bounds-delays-k
bounds-delays-k c = let w = c.loop-k.invariant in omega (arith, w.many)

pub overflow_add-unwritten : goal.overflow_add-unwritten
overflow_add-unwritten c =
    let l = c.loop-k in
    let f = least _ _ _ _ _ l.invariant c.of_call-a.ensures in
    omega (arith, l.invariant.bound, l.invariant.most.unwritten, f.unwritten)

pub overflow_add-ahead : goal.overflow_add-ahead
overflow_add-ahead c =
    let l = c.loop-k in
    let f = least _ _ _ _ _ l.invariant c.of_call-a.ensures in
    omega (arith, l.invariant.bound, l.invariant.most.ahead, f.ahead)

pub overflow_add-overwritten : goal.overflow_add-overwritten
overflow_add-overwritten c =
    let l = c.loop-k in
    let f = least _ _ _ _ _ l.invariant c.of_call-a.ensures in
    omega (arith, l.invariant.bound, l.invariant.most.overwritten, f.overwritten)

pub loop-k-preserved : goal.loop-k-preserved
loop-k-preserved c =
    let l = c.loop-k in
    one_more _ _ _ _ _ l.invariant c.of_call-a.ensures (omega arith)

pub returns : goal.returns
returns c = ended _ _ _ _ _ c.loop-k.invariant (omega arith)
