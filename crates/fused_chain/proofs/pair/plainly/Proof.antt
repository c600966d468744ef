-- `fused_chain::pair::plainly` meets its contract: each run carries both chains' sums on. Assumes nothing.
use Rattle.std.proofs.Common.{ℕ, ◌-◌, ◌≤◌, subst, arith}
use Rattle.fused_chain.specs.Blocks.{Carries}
use Rattle.fused_chain.proofs.ChainParts.{less, stay, on}
use Rattle.fused_chain.proofs.pair.plainly.Statement.{statement}
use Rattle.fused_chain.proofs.pair.plainly.Tie as tie

abbrev invariant-loop : tie.invariant-loop-k
invariant-loop xs a0 a1 b0 b1 blend to a b s₀ t₀ k₀ s t k =
    (k ≤ to) × (Carries xs a0 a1 blend 0 k a s) × (Carries xs b0 b1 blend 0 k b t)

abbrev decreases-loop : tie.decreases-loop-k
decreases-loop xs a0 a1 b0 b1 blend to a b s₀ t₀ k₀ s t k = to - k

abbrev begun : tie.At-loop-k invariant-loop decreases-loop → tie.Start invariant-loop decreases-loop
begun l = l.before.before.before.before.before.before

loop-holds : tie.Need-loop-k-init invariant-loop decreases-loop
loop-holds c =
    let b = c.before.before.before.before.before in
    let a = b.args in (
      omega arith,
      stay a.xs.now a.a0.now a.a1.now a.blend 0 a.a b.requires.0.held,
      stay a.xs.now a.b0.now a.b1.now a.blend 0 a.b b.requires.1.held,
    )

plain-runs-requires : tie.Need-plain_runs-r-requires invariant-loop decreases-loop
plain-runs-requires c κs =
    let l = c.before in
    let p = (begun l).requires.0 in
    let q = (begun l).requires.1 in
    let i = l.loop-k.invariant in (
      record { order = i.0; samples = p.samples; row = p.row; next = p.next; held = i.1.held },
      record { order = i.0; samples = q.samples; row = q.row; next = q.next; held = i.2.held },
    )

stretch-requires : tie.Need-stretch-end-requires invariant-loop decreases-loop
stretch-requires c κs = c.plain_runs-r.ensures.0.last

one-by-one-requires : tie.Need-one_by_one-s-requires invariant-loop decreases-loop
one-by-one-requires c κs =
    let e = c.stretch-end.ensures in
    let p = (begun c.before.before.before).requires.0 in
    record {
      order = e.0;
      samples = omega (arith, e.1, p.samples);
      row = omega (arith, e.1, p.row);
      next = omega (arith, e.1, p.next);
      held = c.before.plain_runs-r.ensures.0.carried.held;
    }

one-by-one-requires-2 : tie.Need-one_by_one-t-requires invariant-loop decreases-loop
one-by-one-requires-2 c κs =
    let e = c.before.stretch-end.ensures in
    let p = (begun c.before.before.before.before).requires.1 in
    record {
      order = e.0;
      samples = omega (arith, e.1, p.samples);
      row = omega (arith, e.1, p.row);
      next = omega (arith, e.1, p.next);
      held = c.before.before.plain_runs-r.ensures.1.carried.held;
    }

loop-less : tie.Need-loop-k-smaller invariant-loop decreases-loop
loop-less c =
    let e = c.before.before in
    let r = e.before.plain_runs-r in
    let i = e.before.before in
    less i.before.loop-k.k r.result.k e.stretch-end.result (begun i.before).args.to i.loop-k-test.true
    r.ensures.0.first r.ensures.0.last e.stretch-end.ensures.0 e.stretch-end.ensures.1
    e.stretch-end.ensures.2

loop-again : tie.Need-loop-k-preserved invariant-loop decreases-loop
loop-again c =
    let o = c.before in
    let e = o.before in
    let r = e.before in
    let l = r.before.before in
    let a = (begun l).args in
    let i = l.loop-k.invariant in (
      e.stretch-end.ensures.1,
      on a.xs.now a.a0.now a.a1.now a.blend
          (on a.xs.now a.a0.now a.a1.now a.blend i.1 r.plain_runs-r.ensures.0.carried)
          o.one_by_one-s.ensures,
      on a.xs.now a.b0.now a.b1.now a.blend
          (on a.xs.now a.b0.now a.b1.now a.blend i.2 r.plain_runs-r.ensures.1.carried)
          c.one_by_one-t.ensures,
    )

returns : tie.Need-returns invariant-loop decreases-loop
returns c =
    let l = c.before in
    let a = (begun l).args in
    let i = l.loop-k.invariant in (
      subst (λ (z : ℕ). Carries a.xs.now a.a0.now a.a1.now a.blend 0 z a.a l.loop-k.s)
          (omega arith) i.1,
      subst (λ (z : ℕ). Carries a.xs.now a.b0.now a.b1.now a.blend 0 z a.b l.loop-k.t)
          (omega arith) i.2,
    )

pub plainly_spec : {M : Type 1} → statement M
plainly_spec =
    tie.close (tie.spec invariant-loop decreases-loop loop-holds plain-runs-requires stretch-requires
    one-by-one-requires one-by-one-requires-2 loop-less loop-again returns)
