-- `fused_chain::turns::plainly` meets its contract: each run carries the sum on. Assumes nothing.
use Rattle.std.proofs.Common.{ℕ, subst, le_refl, arith}
use Rattle.fused_chain.specs.Blocks.{Carries}
use Rattle.fused_chain.proofs.ChainParts.{less, stay, on}
use Rattle.fused_chain.proofs.turns.plainly.Goals as goal

pub loop-k-init : goal.loop-k-init
loop-k-init c =
    let a = c.args in (
      le_refl a.from,
      c.requires.order,
      stay a.xs.now a.row0.now a.row1.now a.blend a.from a.sum c.requires.held,
    )

pub plain_run-r-requires : goal.plain_run-r-requires
plain_run-r-requires c =
    let p = c.requires in
    record {
      order = c.loop-k.invariant.1;
      samples = p.samples;
      row = p.row;
      next = p.next;
      held =
          c.loop-k.invariant.2.held;
    }

pub stretch-end-requires : goal.stretch-end-requires
stretch-end-requires c = c.plain_run-r.ensures.last

pub one_by_one-held-requires : goal.one_by_one-held-requires
one_by_one-held-requires c =
    let r = c.plain_run-r.ensures in
    let p = c.requires in
    record {
      order = c.stretch-end.ensures.0;
      samples = omega (arith, p.samples);
      row = omega (arith, p.row);
      next = omega (arith, p.next);
      held = r.carried.held;
    }

pub loop-k-smaller : goal.loop-k-smaller
loop-k-smaller c =
    let r = c.plain_run-r in
    less c.loop-k.k r.result.k c.stretch-end.result c.args.to
    c.loop-k-test.true r.ensures.first r.ensures.last c.stretch-end.ensures.0
    c.stretch-end.ensures.1 c.stretch-end.ensures.2

pub loop-k-preserved : goal.loop-k-preserved
loop-k-preserved c =
    let a = c.args in (
      omega arith,
      c.stretch-end.ensures.1,
      on a.xs.now a.row0.now a.row1.now a.blend
          (on a.xs.now a.row0.now a.row1.now a.blend c.loop-k.invariant.2
          c.plain_run-r.ensures.carried)
          c.one_by_one-held.ensures,
    )

pub returns : goal.returns
returns c =
    let a = c.args in
    subst
    (λ (z : ℕ). Carries a.xs.now a.row0.now a.row1.now a.blend a.from z a.sum
    c.loop-k.held) (omega arith) c.loop-k.invariant.2
