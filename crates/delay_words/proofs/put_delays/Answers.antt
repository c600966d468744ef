-- `delay_words::put_delays` meets its contract, by whether a delay is left. Assumes nothing.
use borrow.Author.Tests.{lt-ltb, le-ltb}
use Rattle.text.specs.Text.{ascii}
use Rattle.delay_words.specs.Delays.{delays_text}
use Rattle.delay_words.proofs.put_delays.Goals as goal

pub returns-then-above-lt32749 : goal.returns-then-above-lt32749
unfolding ascii delays_text
returns-then-above-lt32749 c =
    let s = c.args in
    rw (lt-ltb s.above 32749 c.if-above-lt32749.true)
    c.put_range.ensures

pub returns : goal.returns
unfolding ascii delays_text
returns c =
    let s = c.args in
    rw (le-ltb s.above 32749 c.if-above-lt32749.false)
    c.put.ensures
