-- `text::put_decimal` meets its contract. The loop's invariant: the digits that are left of v, followed by those
-- written behind k, are the digits of n. Assumes nothing.
use borrow.Author.Rules.{rules}
use mathlib.Core.Path.{◌≡◌, sym, ◌∙◌, ap}
use mathlib.Core.List.{append-nil}
use Prim.Native.Nat.{suc, ◌-◌}
use native.Mathlib.Omega.{arith}
use lib.ListN.{drop, set, length-drop, length-set}
use lib.Seq.{take_all}
use Rattle.text.specs.Text.{put_at, place_after}
use Rattle.text.proofs.Digits.{digit-before, first-digit, fewer, more}
use Rattle.text.proofs.put_decimal.Goals as goal

pub loop-v-init : goal.loop-v-init
loop-v-init c = (search rules, search rules, omega arith, rw append-nil)

pub overflow_sub-k : goal.overflow_sub-k
overflow_sub-k c = more _ _ c.loop-v.invariant.2 (omega arith)

pub loop-v-smaller : goal.loop-v-smaller
loop-v-smaller c = omega (arith, more _ _ c.loop-v.invariant.2 (omega arith))

pub loop-v-preserved : goal.loop-v-preserved
loop-v-preserved c =
    let l = c.loop-v in
    let p = more _ _ l.invariant.2 (omega arith) in
    let e : suc (l.k - 1) ≡ l.k = omega arith in (
      simp length-set (omega arith),
      omega arith,
      rw e (fewer l.k l.v l.invariant.2),
      rw c.digit.ensures (l.invariant.3 ∙ digit-before l.digits l.v e (omega arith) (omega arith)),
    )

pub slice_bounds-put-end : goal.slice_bounds-put-end
slice_bounds-put-end c = simp length-set (omega arith)

pub returns : goal.returns
returns c =
    let e = c.put.ensures in
    let l = c.loop-v in
    let all =
    take_all (20 - l.k) (drop l.k (set l.digits l.k c.digit-2.result))
    (simp (length-drop, length-set) (omega arith)) in
    let same =
    all ∙ sym
    (l.invariant.3 ∙ first-digit l.digits l.k l.v c.digit-2.ensures (omega arith) (omega arith)) in
    record { value = e.value ∙ ap (place_after _ _) same; out_after = e.out_after ∙ ap (put_at _ _) same }
