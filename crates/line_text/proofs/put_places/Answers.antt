-- `line_text::put_places` meets its contract. The loop's invariant: the digits that are left of v, followed by those
-- written from k on, are the digits of n. Assumes nothing.
use borrow.Author.Rules.{rules}
use mathlib.Core.Path.{◌≡◌, sym, ap, ◌∙◌}
use mathlib.Core.List.{append-nil}
use Prim.Native.Nat.{suc, ◌-◌, min}
use native.Mathlib.Omega.{arith}
use lib.ListN.{drop, length-set, length-drop}
use lib.Seq.{take_all}
use Rattle.text.specs.Text.{put_at, place_after}
use Rattle.line_text.proofs.Rows.{digit-next, no-digits}
use Rattle.line_text.proofs.put_places.Goals as goal

pub loop-k-init : goal.loop-k-init
loop-k-init c = (search rules, omega arith, rw append-nil)

pub loop-k-preserved : goal.loop-k-preserved
loop-k-preserved c =
    let l = c.loop-k in
    let from = c.saturating_sub-from.result in
    let e : suc (l.k - 1 - from) ≡ l.k - from = omega arith in
    let g : suc (l.k - 1) ≡ l.k = omega arith in
    let next = digit-next l.digits (l.k - 1) l.v e (omega arith) in
    (simp length-set (omega arith), omega arith, l.invariant.2 ∙ rw g at next)

pub returns : goal.returns
returns c =
    let l = c.loop-k in
    let from = c.saturating_sub-from.result in
    let a = c.args in
    let at : l.k ≡ from = omega arith in
    let few : 20 - from ≡ min a.places 20 = omega arith in
    let all = take_all (20 - from) (drop from l.digits) (simp length-drop (omega arith)) in
    let is = l.invariant.2 ∙ no-digits l.v (omega arith) (drop l.k l.digits) in
    let same = all ∙ sym (rw (few, at) at is) in
    record {
      value = c.put.ensures.value ∙ ap (place_after _ _) same;
      out_after =
          c.put.ensures.out_after ∙ ap (put_at _ _) same;
    }
