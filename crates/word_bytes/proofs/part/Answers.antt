-- `word_bytes::part` meets its contract: past the end there is nothing to take, and near the end no more than is there.
-- Assumes nothing.
use borrow.Author.Rules.{rules}
use mathlib.Core.Path.{sym, ◌∙◌}
use Prim.Native.Nat.{◌-◌, ◌≤◌}
use native.Mathlib.Nat.{add-sub_cancel_left}
use native.Mathlib.Omega.{arith}
use lib.ListN.{length, drop, length-take, length-drop, drop_of_length-le}
use lib.Seq.{take_all, take-nil}
use Rattle.word_bytes.proofs.part.Goals as goal

pub returns-then-s-at : goal.returns-then-s-at
returns-then-s-at c = record {
  result_value = rw (drop_of_length-le c.args.s.now c.if-s-at.true)
      (sym (take-nil c.args.count));
  result_len_bound = search rules;
}

pub returns-then-count-s : goal.returns-then-count-s
returns-then-count-s c =
    let s = c.args.s.now in
    let at = c.args.at in
    record { result_value = rw add-sub_cancel_left; result_len_bound = simp (length-take, length-drop) (omega arith) }

pub returns : goal.returns
returns c =
    let s = c.args.s.now in
    let at = c.args.at in
    let a : length (drop at s) ≤ length s - at = omega (arith, length-drop at s) in
    let b : length (drop at s) ≤ c.args.count = omega (arith, length-drop at s) in
    record {
      result_value = take_all _ (drop at s) a ∙ sym (take_all _ (drop at s) b);
      result_len_bound =
          simp (length-take, length-drop) (omega arith);
    }
