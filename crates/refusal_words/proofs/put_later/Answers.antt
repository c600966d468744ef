-- `refusal_words::put_later` meets its contract, by the number. Assumes nothing.
use borrow.Author.Tests.{eq-eqb, ne_eqb}
use Rattle.text.specs.Text.{ascii}
use Rattle.refusal_words.specs.Refusals.{later_refusal}
use Rattle.refusal_words.proofs.put_later.Goals as goal

pub returns-then-number-eq18 : goal.returns-then-number-eq18
unfolding ascii later_refusal
returns-then-number-eq18 c =
    let s = c.args in
    rw (eq-eqb s.number 18 c.if-number-eq18.true)
    c.put.ensures

pub returns-then-number-eq19 : goal.returns-then-number-eq19
unfolding ascii later_refusal
returns-then-number-eq19 c =
    let s = c.args in
    rw (ne_eqb s.number 18 c.if-number-eq18.false, eq-eqb s.number 19 c.if-number-eq19.true)
    c.put-then-number-eq19.ensures

pub returns-then-number-eq20 : goal.returns-then-number-eq20
unfolding ascii later_refusal
returns-then-number-eq20 c =
    let s = c.args in
    rw (
      ne_eqb s.number 18 c.if-number-eq18.false,
      ne_eqb s.number 19 c.if-number-eq19.false,
      eq-eqb s.number 20 c.if-number-eq20.true,
    )
    c.put-then-number-eq20.ensures

pub returns-then-number-eq21 : goal.returns-then-number-eq21
unfolding ascii later_refusal
returns-then-number-eq21 c =
    let s = c.args in
    rw (
      ne_eqb s.number 18 c.if-number-eq18.false,
      ne_eqb s.number 19 c.if-number-eq19.false,
      ne_eqb s.number 20 c.if-number-eq20.false,
      eq-eqb s.number 21 c.if-number-eq21.true,
    )
    c.put-then-number-eq21.ensures

pub returns-then-number-eq22 : goal.returns-then-number-eq22
unfolding ascii later_refusal
returns-then-number-eq22 c =
    let s = c.args in
    rw (
      ne_eqb s.number 18 c.if-number-eq18.false,
      ne_eqb s.number 19 c.if-number-eq19.false,
      ne_eqb s.number 20 c.if-number-eq20.false,
      ne_eqb s.number 21 c.if-number-eq21.false,
      eq-eqb s.number 22 c.if-number-eq22.true,
    )
    c.put-then-number-eq22.ensures

pub returns : goal.returns
unfolding ascii later_refusal
returns c =
    let s = c.args in
    rw (
      ne_eqb s.number 18 c.if-number-eq18.false,
      ne_eqb s.number 19 c.if-number-eq19.false,
      ne_eqb s.number 20 c.if-number-eq20.false,
      ne_eqb s.number 21 c.if-number-eq21.false,
      ne_eqb s.number 22 c.if-number-eq22.false,
    )
    c.put_other.ensures
