-- `refusal_words::kinds::put_remix` meets its contract, by whether there are more than two. Assumes nothing.
use borrow.Author.Tests.{lt-ltb, le-ltb}
use Rattle.text.specs.Text.{ascii}
use Rattle.refusal_words.specs.Kinds.{remix_text}
use Rattle.refusal_words.proofs.kinds.put_remix.Goals as goal

pub returns-then-channels-gt2 : goal.returns-then-channels-gt2
unfolding ascii remix_text
returns-then-channels-gt2 c =
    let s = c.args in
    rw (lt-ltb 2 s.channels c.if-channels-gt2.true)
    c.put.ensures

pub returns : goal.returns
unfolding ascii remix_text
returns c =
    let s = c.args in
    rw (le-ltb 2 s.channels c.if-channels-gt2.false)
    c.put-2.ensures
