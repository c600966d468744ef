-- `fused_chain::before::plain_run` meets its contract: the turns so far carry the sum, which is finite. Assumes
-- nothing.
use Rattle.std.proofs.Common.{le_refl, arith}
use borrow.Author.Tests.{not-false}
use lib.Ieee.{binary64, sub, eq, ne, of_bits}
use Rattle.fused_chain.proofs.ChainParts.{stay, on}
use Rattle.fused_chain.proofs.Finite.{self-finite}
use Rattle.fused_chain.proofs.FourTurnsByPatterns.{four}
use Rattle.fused_chain.proofs.before.plain_run.Goals as goal

pub returns-then-sum : goal.returns-then-sum
returns-then-sum c =
    let a = c.args in
    record {
      first = le_refl a.from;
      last = c.requires.order;
      carried = stay a.xs.now a.row0.now a.row1.now a.blend a.from a.sum c.requires.held;
    }

pub loop-k-init : goal.loop-k-init
unfolding ne
loop-k-init c =
    let a = c.args in (
      le_refl a.from,
      c.requires.order,
      stay a.xs.now a.row0.now a.row1.now a.blend a.from a.sum c.requires.held,
      self-finite a.sum (not-false (eq (sub binary64 a.sum a.sum) (of_bits binary64 0)) c.if-sum.false),
    )

pub overflow_sub-to : goal.overflow_sub-to
overflow_sub-to c = omega arith

pub multiplied-p-requires : goal.multiplied-p-requires
multiplied-p-requires c =
    let p = c.requires in
    (omega (arith, p.samples), omega (arith, p.row), omega (arith, p.next))

pub returns-then-not-p : goal.returns-then-not-p
returns-then-not-p c =
    record { first = c.loop-k.invariant.0; last = c.loop-k.invariant.1; carried = c.loop-k.invariant.2 }

pub four_rounded-r-requires : goal.four_rounded-r-requires
four_rounded-r-requires c =
    record {
      fact_1 = (c.multiplied-p.ensures (not-false c.multiplied-p.result.fine c.if-not-p.false)).bounded;
      fact_2 =
          c.loop-k.invariant.3;
    }

pub returns-then-not-r : goal.returns-then-not-r
returns-then-not-r c =
    record { first = c.loop-k.invariant.0; last = c.loop-k.invariant.1; carried = c.loop-k.invariant.2 }

pub overflow_add-k : goal.overflow_add-k
overflow_add-k c = omega arith

pub loop-k-smaller : goal.loop-k-smaller
loop-k-smaller c = omega arith

pub loop-k-preserved : goal.loop-k-preserved
loop-k-preserved c =
    let a = c.args in
    let p = c.multiplied-p.result in
    let N = c.four_rounded-r.ensures (not-false c.four_rounded-r.result.fine c.if-not-r.false) in
    let M = c.multiplied-p.ensures (not-false p.fine c.if-not-p.false) in
    let C =
    four a.xs.now a.row0.now a.row1.now a.blend c.loop-k.k c.loop-k.held p.a p.b p.c
    p.d c.four_rounded-r.result.sum M N in (
      omega arith,
      omega arith,
      on a.xs.now a.row0.now a.row1.now a.blend c.loop-k.invariant.2 C,
      N.fourth.bounded,
    )

pub returns : goal.returns
returns c =
    record { first = c.loop-k.invariant.0; last = c.loop-k.invariant.1; carried = c.loop-k.invariant.2 }
