-- `picture::names::put_byte` meets its contract, by the tests of the byte. Assumes nothing.
use borrow.Author.Tests.{eq-eqb, ne_eqb, lt-ltb, le-ltb}
use Rattle.text.specs.Text.{ascii}
use Rattle.picture.specs.Names.{escaped_byte}
use Rattle.picture.proofs.names.put_byte.Goals as goal

pub returns-then-b-eq38 : goal.returns-then-b-eq38
unfolding ascii escaped_byte
returns-then-b-eq38 c =
    let b = c.args.b in
    rw (eq-eqb b 38 c.if-b-eq38.true)
    c.put.ensures

pub returns-then-b-eq60 : goal.returns-then-b-eq60
unfolding ascii escaped_byte
returns-then-b-eq60 c =
    let b = c.args.b in
    rw (ne_eqb b 38 c.if-b-eq38.false, eq-eqb b 60 c.if-b-eq60.true)
    c.put-then-b-eq60.ensures

pub returns-then-b-eq62 : goal.returns-then-b-eq62
unfolding ascii escaped_byte
returns-then-b-eq62 c =
    let b = c.args.b in
    rw (ne_eqb b 38 c.if-b-eq38.false, ne_eqb b 60 c.if-b-eq60.false, eq-eqb b 62 c.if-b-eq62.true)
    c.put-then-b-eq62.ensures

pub returns-then-b-lt32 : goal.returns-then-b-lt32
unfolding ascii escaped_byte
returns-then-b-lt32 c =
    let b = c.args.b in
    rw (
      ne_eqb b 38 c.if-b-eq38.false,
      ne_eqb b 60 c.if-b-eq60.false,
      ne_eqb b 62 c.if-b-eq62.false,
      lt-ltb b 32 c.if-b-lt32.true,
    )
    c.put-then-b-lt32.ensures

pub returns : goal.returns
unfolding ascii escaped_byte
returns c =
    let b = c.args.b in
    rw (
      ne_eqb b 38 c.if-b-eq38.false,
      ne_eqb b 60 c.if-b-eq60.false,
      ne_eqb b 62 c.if-b-eq62.false,
      le-ltb b 32 c.if-b-lt32.false,
    )
    c.put-2.ensures
