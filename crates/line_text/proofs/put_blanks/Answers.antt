-- `line_text::put_blanks` meets its contract: as many blanks as there is room for are the first of them. Assumes
-- nothing.
use mathlib.Core.Path.{◌≡◌, sym, ap, ◌∙◌}
use Prim.Native.Nat.{ℕ, ◌+◌, ◌-◌}
use native.Mathlib.Nat.{min-eq_left}
use native.Mathlib.Omega.{arith}
use lib.ListN.{length, take, drop, replicate, length-take, length-drop}
use Rattle.text.proofs.Texts.{put-out, put-cut}
use Rattle.line_text.specs.Columns.{blanks}
use Rattle.line_text.proofs.Rows.{blanks-long, first-blanks}
use Rattle.line_text.proofs.put_blanks.Goals as goal

pub returns-then-out-at : goal.returns-then-out-at
returns-then-out-at c =
    let long = blanks-long c.args.count in
    record {
      value = omega arith ∙ sym (min-eq_left (omega arith));
      out_after =
          sym (put-out (blanks c.args.count) _ _ (omega arith));
    }

pub returns : goal.returns
returns c =
    let a = c.args in
    let n = c.min-n.result in
    let long = blanks-long a.count in
    let room : length (take (a.at + n - a.at) (drop a.at a.out.now)) ≡ n =
    simp (length-take, length-drop) (omega arith) in
    record {
      value = omega arith;
      out_after = put-cut a.out.now (blanks a.count) a.at n (omega arith) (omega arith) (omega arith)
          (c.fill.ensures.after (λ y h. h) ∙ ap (λ (m : ℕ). replicate m 32) room ∙ first-blanks n a.count
          (omega arith));
    }
