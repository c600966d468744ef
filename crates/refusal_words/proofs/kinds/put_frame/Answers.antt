-- `refusal_words::kinds::put_frame` meets its contract, by whether the file says it. Assumes nothing.
use borrow.Author.Tests.{eq-eqb, ne_eqb}
use Rattle.text.specs.Text.{ascii}
use Rattle.report_lines.specs.Files.{count_text}
use Rattle.refusal_words.specs.Kinds.{frame_text}
use mathlib.Core.List.{◌++◌}
use Rattle.text.proofs.Texts.{then}
use Rattle.refusal_words.proofs.kinds.put_frame.Goals as goal

pub returns-then-block-eq0 : goal.returns-then-block-eq0
unfolding ascii frame_text
returns-then-block-eq0 c =
    let s = c.args in
    rw (eq-eqb s.block 0 c.if-block-eq0.true)
    c.put.ensures

pub returns : goal.returns
unfolding ascii frame_text
returns c =
    let s = c.args in
    let from-two = (count_text s.block (ascii "byte")) ++ (ascii " a frame") in
    rw (ne_eqb s.block 0 c.if-block-eq0.false)
    (then s.out.now (ascii ", ") from-two s.at c.put-one.ensures
    (then c.put-one.new.out (count_text s.block (ascii "byte")) (ascii " a frame") c.put-one.result
    c.put_count-two.ensures c.put-2.ensures))
