-- `utf8::next` meets its contract, by the place. Assumes nothing.
use borrow.Author.Tests.{eq-eqb, ne_eqb}
use Rattle.utf8.specs.Utf8.{next_of}
use Rattle.utf8.proofs.next.Goals as goal

pub returns-then-place-eq0 : goal.returns-then-place-eq0
unfolding next_of
returns-then-place-eq0 c =
    let p = c.args.place in
    rw (eq-eqb p 0 c.if-place-eq0.true) c.opened.ensures

pub returns-then-place-eq1 : goal.returns-then-place-eq1
unfolding next_of
returns-then-place-eq1 c =
    let p = c.args.place in
    rw (ne_eqb p 0 c.if-place-eq0.false, eq-eqb p 1 c.if-place-eq1.true) c.continued.ensures

pub returns-then-place-eq2 : goal.returns-then-place-eq2
unfolding next_of
returns-then-place-eq2 c =
    let p = c.args.place in
    rw (
      ne_eqb p 0 c.if-place-eq0.false,
      ne_eqb p 1 c.if-place-eq1.false,
      eq-eqb p 2 c.if-place-eq2.true,
    ) c.continued-then-place-eq2.ensures

pub returns-then-place-eq3 : goal.returns-then-place-eq3
unfolding next_of
returns-then-place-eq3 c =
    let p = c.args.place in
    rw (
      ne_eqb p 0 c.if-place-eq0.false,
      ne_eqb p 1 c.if-place-eq1.false,
      ne_eqb p 2 c.if-place-eq2.false,
      eq-eqb p 3 c.if-place-eq3.true,
    ) c.continued-then-place-eq3.ensures

pub returns-then-place-eq4 : goal.returns-then-place-eq4
unfolding next_of
returns-then-place-eq4 c =
    let p = c.args.place in
    rw (
      ne_eqb p 0 c.if-place-eq0.false,
      ne_eqb p 1 c.if-place-eq1.false,
      ne_eqb p 2 c.if-place-eq2.false,
      ne_eqb p 3 c.if-place-eq3.false,
      eq-eqb p 4 c.if-place-eq4.true,
    ) c.continued-then-place-eq4.ensures

pub returns-then-place-eq5 : goal.returns-then-place-eq5
unfolding next_of
returns-then-place-eq5 c =
    let p = c.args.place in
    rw (
      ne_eqb p 0 c.if-place-eq0.false,
      ne_eqb p 1 c.if-place-eq1.false,
      ne_eqb p 2 c.if-place-eq2.false,
      ne_eqb p 3 c.if-place-eq3.false,
      ne_eqb p 4 c.if-place-eq4.false,
      eq-eqb p 5 c.if-place-eq5.true,
    ) c.continued-then-place-eq5.ensures

pub returns-then-place-eq6 : goal.returns-then-place-eq6
unfolding next_of
returns-then-place-eq6 c =
    let p = c.args.place in
    rw (
      ne_eqb p 0 c.if-place-eq0.false,
      ne_eqb p 1 c.if-place-eq1.false,
      ne_eqb p 2 c.if-place-eq2.false,
      ne_eqb p 3 c.if-place-eq3.false,
      ne_eqb p 4 c.if-place-eq4.false,
      ne_eqb p 5 c.if-place-eq5.false,
      eq-eqb p 6 c.if-place-eq6.true,
    ) c.continued-then-place-eq6.ensures

pub returns-then-place-eq7 : goal.returns-then-place-eq7
unfolding next_of
returns-then-place-eq7 c =
    let p = c.args.place in
    rw (
      ne_eqb p 0 c.if-place-eq0.false,
      ne_eqb p 1 c.if-place-eq1.false,
      ne_eqb p 2 c.if-place-eq2.false,
      ne_eqb p 3 c.if-place-eq3.false,
      ne_eqb p 4 c.if-place-eq4.false,
      ne_eqb p 5 c.if-place-eq5.false,
      ne_eqb p 6 c.if-place-eq6.false,
      eq-eqb p 7 c.if-place-eq7.true,
    ) c.continued-then-place-eq7.ensures

pub returns-then-b-eq191 : goal.returns-then-b-eq191
unfolding next_of
returns-then-b-eq191 c =
    let p = c.args.place in
    let b = c.args.b in
    rw (
      ne_eqb p 0 c.if-place-eq0.false,
      ne_eqb p 1 c.if-place-eq1.false,
      ne_eqb p 2 c.if-place-eq2.false,
      ne_eqb p 3 c.if-place-eq3.false,
      ne_eqb p 4 c.if-place-eq4.false,
      ne_eqb p 5 c.if-place-eq5.false,
      ne_eqb p 6 c.if-place-eq6.false,
      ne_eqb p 7 c.if-place-eq7.false,
      eq-eqb p 8 c.if-place-eq8.true,
      eq-eqb b 191 c.if-b-eq191.true,
    )

pub returns-else-b-eq191 : goal.returns-else-b-eq191
unfolding next_of
returns-else-b-eq191 c =
    let p = c.args.place in
    let b = c.args.b in
    rw (
      ne_eqb p 0 c.if-place-eq0.false,
      ne_eqb p 1 c.if-place-eq1.false,
      ne_eqb p 2 c.if-place-eq2.false,
      ne_eqb p 3 c.if-place-eq3.false,
      ne_eqb p 4 c.if-place-eq4.false,
      ne_eqb p 5 c.if-place-eq5.false,
      ne_eqb p 6 c.if-place-eq6.false,
      ne_eqb p 7 c.if-place-eq7.false,
      eq-eqb p 8 c.if-place-eq8.true,
      ne_eqb b 191 c.if-b-eq191.false,
    ) c.continued-else-b-eq191.ensures

pub returns-then-place-eq9 : goal.returns-then-place-eq9
unfolding next_of
returns-then-place-eq9 c =
    let p = c.args.place in
    rw (
      ne_eqb p 0 c.if-place-eq0.false,
      ne_eqb p 1 c.if-place-eq1.false,
      ne_eqb p 2 c.if-place-eq2.false,
      ne_eqb p 3 c.if-place-eq3.false,
      ne_eqb p 4 c.if-place-eq4.false,
      ne_eqb p 5 c.if-place-eq5.false,
      ne_eqb p 6 c.if-place-eq6.false,
      ne_eqb p 7 c.if-place-eq7.false,
      ne_eqb p 8 c.if-place-eq8.false,
      eq-eqb p 9 c.if-place-eq9.true,
    ) c.continued-then-place-eq9.ensures

pub returns-else-place-eq9 : goal.returns-else-place-eq9
unfolding next_of
returns-else-place-eq9 c =
    let p = c.args.place in
    rw (
      ne_eqb p 0 c.if-place-eq0.false,
      ne_eqb p 1 c.if-place-eq1.false,
      ne_eqb p 2 c.if-place-eq2.false,
      ne_eqb p 3 c.if-place-eq3.false,
      ne_eqb p 4 c.if-place-eq4.false,
      ne_eqb p 5 c.if-place-eq5.false,
      ne_eqb p 6 c.if-place-eq6.false,
      ne_eqb p 7 c.if-place-eq7.false,
      ne_eqb p 8 c.if-place-eq8.false,
      ne_eqb p 9 c.if-place-eq9.false,
    )
