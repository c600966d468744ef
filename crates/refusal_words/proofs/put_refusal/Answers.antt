-- `refusal_words::put_refusal` meets its contract, by the number. Assumes nothing.
use borrow.Author.Tests.{eq-eqb, ne_eqb}
use Rattle.text.specs.Text.{ascii}
use Rattle.refusal_words.specs.Refusals.{refusal_text}
use Rattle.refusal_words.proofs.put_refusal.Goals as goal

pub returns-then-number-eq9 : goal.returns-then-number-eq9
unfolding ascii refusal_text
returns-then-number-eq9 c =
    let s = c.args in
    rw (eq-eqb s.number 9 c.if-number-eq9.true)
    c.put.ensures

pub returns-then-number-eq10 : goal.returns-then-number-eq10
unfolding ascii refusal_text
returns-then-number-eq10 c =
    let s = c.args in
    rw (ne_eqb s.number 9 c.if-number-eq9.false, eq-eqb s.number 10 c.if-number-eq10.true)
    c.put-then-number-eq10.ensures

pub returns-then-number-eq11 : goal.returns-then-number-eq11
unfolding ascii refusal_text
returns-then-number-eq11 c =
    let s = c.args in
    rw (
      ne_eqb s.number 9 c.if-number-eq9.false,
      ne_eqb s.number 10 c.if-number-eq10.false,
      eq-eqb s.number 11 c.if-number-eq11.true,
    )
    c.put-then-number-eq11.ensures

pub returns-then-number-eq12 : goal.returns-then-number-eq12
unfolding ascii refusal_text
returns-then-number-eq12 c =
    let s = c.args in
    rw (
      ne_eqb s.number 9 c.if-number-eq9.false,
      ne_eqb s.number 10 c.if-number-eq10.false,
      ne_eqb s.number 11 c.if-number-eq11.false,
      eq-eqb s.number 12 c.if-number-eq12.true,
    )
    c.put-then-number-eq12.ensures

pub returns-then-number-eq13 : goal.returns-then-number-eq13
unfolding ascii refusal_text
returns-then-number-eq13 c =
    let s = c.args in
    rw (
      ne_eqb s.number 9 c.if-number-eq9.false,
      ne_eqb s.number 10 c.if-number-eq10.false,
      ne_eqb s.number 11 c.if-number-eq11.false,
      ne_eqb s.number 12 c.if-number-eq12.false,
      eq-eqb s.number 13 c.if-number-eq13.true,
    )
    c.put_refused_kind.ensures

pub returns : goal.returns
unfolding ascii refusal_text
returns c =
    let s = c.args in
    rw (
      ne_eqb s.number 9 c.if-number-eq9.false,
      ne_eqb s.number 10 c.if-number-eq10.false,
      ne_eqb s.number 11 c.if-number-eq11.false,
      ne_eqb s.number 12 c.if-number-eq12.false,
      ne_eqb s.number 13 c.if-number-eq13.false,
    )
    c.put_later.ensures
