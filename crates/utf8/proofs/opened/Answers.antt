-- `utf8::opened` meets its contract, by the tests of the byte. Assumes nothing.
use borrow.Author.Tests.{eq-eqb, ne_eqb, lt-ltb, le-ltb}
use Rattle.utf8.specs.Utf8.{opens}
use Rattle.utf8.proofs.opened.Goals as goal

pub returns-then-b-lt128 : goal.returns-then-b-lt128
unfolding opens
returns-then-b-lt128 c =
    let b = c.args.b in
    rw (lt-ltb b 128 c.if-b-lt128.true)

pub returns-then-b-lt194 : goal.returns-then-b-lt194
unfolding opens
returns-then-b-lt194 c =
    let b = c.args.b in
    rw (le-ltb b 128 c.if-b-lt128.false, lt-ltb b 194 c.if-b-lt194.true)

pub returns-then-b-lt224 : goal.returns-then-b-lt224
unfolding opens
returns-then-b-lt224 c =
    let b = c.args.b in
    rw (
      le-ltb b 128 c.if-b-lt128.false,
      le-ltb b 194 c.if-b-lt194.false,
      lt-ltb b 224 c.if-b-lt224.true,
    )

pub returns-then-b-eq224 : goal.returns-then-b-eq224
unfolding opens
returns-then-b-eq224 c =
    let b = c.args.b in
    rw (
      le-ltb b 128 c.if-b-lt128.false,
      le-ltb b 194 c.if-b-lt194.false,
      le-ltb b 224 c.if-b-lt224.false,
      eq-eqb b 224 c.if-b-eq224.true,
    )

pub returns-then-b-eq237 : goal.returns-then-b-eq237
unfolding opens
returns-then-b-eq237 c =
    let b = c.args.b in
    rw (
      le-ltb b 128 c.if-b-lt128.false,
      le-ltb b 194 c.if-b-lt194.false,
      le-ltb b 224 c.if-b-lt224.false,
      ne_eqb b 224 c.if-b-eq224.false,
      eq-eqb b 237 c.if-b-eq237.true,
    )

pub returns-then-b-eq239 : goal.returns-then-b-eq239
unfolding opens
returns-then-b-eq239 c =
    let b = c.args.b in
    rw (
      le-ltb b 128 c.if-b-lt128.false,
      le-ltb b 194 c.if-b-lt194.false,
      le-ltb b 224 c.if-b-lt224.false,
      ne_eqb b 224 c.if-b-eq224.false,
      ne_eqb b 237 c.if-b-eq237.false,
      eq-eqb b 239 c.if-b-eq239.true,
    )

pub returns-then-b-lt240 : goal.returns-then-b-lt240
unfolding opens
returns-then-b-lt240 c =
    let b = c.args.b in
    rw (
      le-ltb b 128 c.if-b-lt128.false,
      le-ltb b 194 c.if-b-lt194.false,
      le-ltb b 224 c.if-b-lt224.false,
      ne_eqb b 224 c.if-b-eq224.false,
      ne_eqb b 237 c.if-b-eq237.false,
      ne_eqb b 239 c.if-b-eq239.false,
      lt-ltb b 240 c.if-b-lt240.true,
    )

pub returns-then-b-eq240 : goal.returns-then-b-eq240
unfolding opens
returns-then-b-eq240 c =
    let b = c.args.b in
    rw (
      le-ltb b 128 c.if-b-lt128.false,
      le-ltb b 194 c.if-b-lt194.false,
      le-ltb b 224 c.if-b-lt224.false,
      ne_eqb b 224 c.if-b-eq224.false,
      ne_eqb b 237 c.if-b-eq237.false,
      ne_eqb b 239 c.if-b-eq239.false,
      le-ltb b 240 c.if-b-lt240.false,
      eq-eqb b 240 c.if-b-eq240.true,
    )

pub returns-then-b-lt244 : goal.returns-then-b-lt244
unfolding opens
returns-then-b-lt244 c =
    let b = c.args.b in
    rw (
      le-ltb b 128 c.if-b-lt128.false,
      le-ltb b 194 c.if-b-lt194.false,
      le-ltb b 224 c.if-b-lt224.false,
      ne_eqb b 224 c.if-b-eq224.false,
      ne_eqb b 237 c.if-b-eq237.false,
      ne_eqb b 239 c.if-b-eq239.false,
      le-ltb b 240 c.if-b-lt240.false,
      ne_eqb b 240 c.if-b-eq240.false,
      lt-ltb b 244 c.if-b-lt244.true,
    )

pub returns-then-b-eq244 : goal.returns-then-b-eq244
unfolding opens
returns-then-b-eq244 c =
    let b = c.args.b in
    rw (
      le-ltb b 128 c.if-b-lt128.false,
      le-ltb b 194 c.if-b-lt194.false,
      le-ltb b 224 c.if-b-lt224.false,
      ne_eqb b 224 c.if-b-eq224.false,
      ne_eqb b 237 c.if-b-eq237.false,
      ne_eqb b 239 c.if-b-eq239.false,
      le-ltb b 240 c.if-b-lt240.false,
      ne_eqb b 240 c.if-b-eq240.false,
      le-ltb b 244 c.if-b-lt244.false,
      eq-eqb b 244 c.if-b-eq244.true,
    )

pub returns-else-b-eq244 : goal.returns-else-b-eq244
unfolding opens
returns-else-b-eq244 c =
    let b = c.args.b in
    rw (
      le-ltb b 128 c.if-b-lt128.false,
      le-ltb b 194 c.if-b-lt194.false,
      le-ltb b 224 c.if-b-lt224.false,
      ne_eqb b 224 c.if-b-eq224.false,
      ne_eqb b 237 c.if-b-eq237.false,
      ne_eqb b 239 c.if-b-eq239.false,
      le-ltb b 240 c.if-b-lt240.false,
      ne_eqb b 240 c.if-b-eq240.false,
      le-ltb b 244 c.if-b-lt244.false,
      ne_eqb b 244 c.if-b-eq244.false,
    )
