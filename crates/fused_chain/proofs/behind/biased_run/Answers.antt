-- `fused_chain::behind::biased_run` meets its contract: the biased sum stands for the chain's sum. Assumes nothing.
use Rattle.std.proofs.Common.{le_refl, arith, rules}
use borrow.Author.Tests.{not-false}
use Rattle.biased_sum.proofs.BiasTests.{begins}
use Rattle.biased_sum.proofs.CombinedTests.{first_of, second-of}
use Rattle.fused_chain.proofs.ChainParts.{stay}
use Rattle.fused_chain.proofs.FourBiasedTurns.{four, ended}
use Rattle.fused_chain.proofs.behind.biased_run.Goals as goal

pub with_bias-t-requires : goal.with_bias-t-requires
with_bias-t-requires c = search rules

pub returns-then-not-t : goal.returns-then-not-t
returns-then-not-t c =
    let a = c.args in
    record {
      first = le_refl a.from;
      last = c.requires.order;
      carried = stay a.xs.now a.row0.now a.row1.now a.blend a.from a.sum c.requires.held;
    }

pub loop-k-init : goal.loop-k-init
loop-k-init c =
    let a = c.args in (
      le_refl a.from,
      c.requires.order,
      (
        a.sum,
        begins a.sum c.with_bias-t.result c.with_bias-t.ensures c.requires.held
            (not-false c.with_bias-t.result.fine c.if-not-t.false),
        stay a.xs.now a.row0.now a.row1.now a.blend a.from a.sum c.requires.held,
      ),
    )

pub overflow_sub-to : goal.overflow_sub-to
overflow_sub-to c = omega arith

pub multiplied-p-requires : goal.multiplied-p-requires
multiplied-p-requires c =
    let p = c.requires in
    (omega (arith, p.samples), omega (arith, p.row), omega (arith, p.next))

pub advance-r-requires : goal.advance-r-requires
advance-r-requires c = search rules

pub returns-then-not-both : goal.returns-then-not-both
returns-then-not-both c =
    let a = c.args in
    let t = c.with_bias-t.result in
    ended a.xs.now a.row0.now a.row1.now a.blend t.bias t.low t.high a.from a.to
    a.sum c.loop-k.k c.loop-k.held c.loop-k.invariant.0 c.loop-k.invariant.1 c.loop-k.invariant.2

pub overflow_add-k : goal.overflow_add-k
overflow_add-k c = omega arith

pub loop-k-smaller : goal.loop-k-smaller
loop-k-smaller c = omega arith

pub loop-k-preserved : goal.loop-k-preserved
loop-k-preserved c =
    let a = c.args in
    let t = c.with_bias-t.result in
    let p = c.multiplied-p.result in
    let all = not-false c.both.result c.if-not-both.false-raw in
    let fine = first_of c.both.result p.fine c.advance-r.result.fine c.both.ensures all in
    let moved =
    c.advance-r.ensures.advanced
    (second-of c.both.result p.fine c.advance-r.result.fine c.both.ensures all) in (
      omega arith,
      omega arith,
      four a.xs.now a.row0.now a.row1.now a.blend t.bias t.low t.high a.from a.sum
          c.loop-k.k c.loop-k.held p.a p.b p.c p.d c.advance-r.result.sum
          (c.multiplied-p.ensures fine) moved c.loop-k.invariant.2,
    )

pub returns : goal.returns
returns c =
    let a = c.args in
    let t = c.with_bias-t.result in
    ended a.xs.now a.row0.now a.row1.now a.blend t.bias t.low t.high a.from a.to
    a.sum c.loop-k.k c.loop-k.held c.loop-k.invariant.0 c.loop-k.invariant.1 c.loop-k.invariant.2
