-- `text::put` meets its contract. Assumes nothing.
use mathlib.Core.Path.{sym, ◌∙◌}
use native.Mathlib.Nat.{min-eq_left}
use native.Mathlib.Omega.{arith}
use Rattle.text.proofs.Texts.{put-out, put-cut}
use Rattle.text.proofs.put.Goals as goal

pub returns-then-out-at : goal.returns-then-out-at
returns-then-out-at c =
    record {
      value = omega arith ∙ sym (min-eq_left (omega arith));
      out_after =
          sym (put-out c.args.text.now _ _ (omega arith));
    }

pub returns : goal.returns
returns c =
    let a = c.args in
    let n = c.min-n.result in
    record {
      value = omega arith;
      out_after = put-cut a.out.now a.text.now a.at n (omega arith) c.min-n.ensures (omega arith)
          c.copy_from_slice.ensures.after;
    }
