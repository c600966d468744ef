-- `level_text::put_tenths` meets its contract, by the cases of the sign. Assumes nothing.
use Prim.Native.Nat.{◌-◌}
use borrow.Author.Tests.{lt-ltb, le-ltb}
use Rattle.text.specs.Text.{ascii}
use Rattle.text.proofs.Texts.{then}
use Rattle.level_text.specs.LevelText.{size_text, tenths_text}
use Rattle.level_text.proofs.put_tenths.Goals as goal

pub returns-then-j-lt61 : goal.returns-then-j-lt61
unfolding ascii tenths_text
returns-then-j-lt61 c =
    let s = c.args in
    rw (lt-ltb s.j 61 c.if-j-lt61.true)
    (then s.out.now (ascii "+") (size_text (61 - s.j)) s.at c.put-to.ensures c.put_size.ensures)

pub returns-then-j-gt61 : goal.returns-then-j-gt61
unfolding ascii tenths_text
returns-then-j-gt61 c =
    let s = c.args in
    rw (le-ltb s.j 61 c.if-j-lt61.false, lt-ltb 61 s.j c.if-j-gt61.true)
    (then s.out.now (ascii "-") (size_text (s.j - 61)) s.at c.put-to-then-j-gt61.ensures c.put_size-then-j-gt61.ensures)

pub returns : goal.returns
unfolding tenths_text
returns c =
    let s = c.args in
    rw (le-ltb s.j 61 c.if-j-lt61.false, le-ltb 61 s.j c.if-j-gt61.false) c.put_size-2.ensures
