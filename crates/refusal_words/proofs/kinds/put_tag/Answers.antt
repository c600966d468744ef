-- `refusal_words::kinds::put_tag` meets its contract, by the tag. Assumes nothing.
use borrow.Author.Tests.{eq-eqb, ne_eqb}
use Rattle.text.specs.Text.{ascii, decimal}
use Rattle.refusal_words.specs.Kinds.{tag_text}
use Rattle.text.proofs.Texts.{then}
use Rattle.refusal_words.proofs.kinds.put_tag.Goals as goal

pub returns-then-tag-eq0 : goal.returns-then-tag-eq0
unfolding ascii tag_text
returns-then-tag-eq0 c =
    let s = c.args in
    rw (eq-eqb s.tag 0 c.if-tag-eq0.true)
    c.put.ensures

pub returns-then-tag-eq65534 : goal.returns-then-tag-eq65534
unfolding ascii tag_text
returns-then-tag-eq65534 c =
    let s = c.args in
    rw (ne_eqb s.tag 0 c.if-tag-eq0.false, eq-eqb s.tag 65534 c.if-tag-eq65534.true)
    c.put-then-tag-eq65534.ensures

pub returns : goal.returns
unfolding ascii tag_text
returns c =
    let s = c.args in
    rw (ne_eqb s.tag 0 c.if-tag-eq0.false, ne_eqb s.tag 65534 c.if-tag-eq65534.false)
    (then s.out.now (ascii "tag ") (decimal s.tag) s.at c.put-one.ensures c.put_decimal.ensures)
