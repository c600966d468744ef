-- `imitation::delays::wander` meets its contract: the loop writes two lists by a rule, and the engine steps as often.
-- Assumes nothing.
use mathlib.Core.Path.{◌≡◌, ap, ◌∙◌}
use Prim.Native.Nat.{min}
use native.Mathlib.Omega.{arith}
use lib.ListN.{length}
use Rattle.imitation.specs.Delays.{turned_by}
use Rattle.imitation.proofs.Fronts.{begun, one_more, ended}
use Rattle.imitation.proofs.EngineTurns.{turned_none, turned_more, left-turned, right-turned}
use Rattle.imitation.proofs.delays.wander.Goals as goal

pub loop-k-init : goal.loop-k-init
loop-k-init c = record { turned = turned_none _ _; left = begun; right = begun }

pub bounds-left-k : goal.bounds-left-k
bounds-left-k c = let i = c.loop-k.invariant in omega (arith, i.left.long)

pub bounds-right-k : goal.bounds-right-k
bounds-right-k c = let i = c.loop-k.invariant in omega (arith, i.right.long)

pub loop-k-preserved : goal.loop-k-preserved
loop-k-preserved c =
    let l = c.loop-k in
    let i = l.invariant in
    let n = c.next-next in
    let a = c.args in record {
      turned = turned_more _ _ l.k i.turned n.ensures;
      left =
          one_more i.left (omega (arith, i.left.long))
          (left-turned a.params a.engine l.k a.middle i.turned n.ensures c.left_of.ensures);
      right =
          one_more i.right (omega (arith, i.right.long))
          (right-turned a.params a.engine l.k a.middle i.turned n.ensures c.right_of.ensures);
    }

pub returns : goal.returns
returns c =
    let l = c.loop-k in
    let i = l.invariant in
    let a = c.args in
    let k : l.k ≡ min (length a.left.now) (length a.right.now) = omega arith in
    record {
      frames_value = omega arith;
      engine_value = i.turned ∙ ap (turned_by _ _) k;
      left_after = rw (← k) (ended i.left);
      right_after = rw (← k) (ended i.right);
    }
