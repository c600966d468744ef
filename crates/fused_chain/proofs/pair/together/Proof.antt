-- `fused_chain::pair::together` meets its contract: each run carries both chains' sums on. Assumes nothing.
use Rattle.std.proofs.Common.{◌≡◌, ◌-◌, ◌≤◌, T, sym, ap, ◌∙◌, subst, arith, rules}
use lib.Ieee.{Float, binary32, fits}
use Rattle.fused_chain.specs.Chain.{chain_of}
use Rattle.fused_chain.specs.Blocks.{Carries}
use Rattle.fused_chain.proofs.ChainParts.{less, on, whole}
use Rattle.fused_chain.proofs.pair.together.Statement.{statement}
use Rattle.fused_chain.proofs.pair.together.Tie as tie

abbrev invariant-loop : tie.invariant-loop-k
invariant-loop xs a0 a1 b0 b1 blend a b n middle from-a from-b s₀ t₀ k₀ s t k =
    (k ≤ n) × (Carries xs a0 a1 blend 0 k a s) × (Carries xs b0 b1 blend 0 k b t)

abbrev decreases-loop : tie.decreases-loop-k
decreases-loop xs a0 a1 b0 b1 blend a b n middle from-a from-b s₀ t₀ k₀ s t k = n - k

-- Both sums are f32 values.
held-a : (c : tie.Start invariant-loop decreases-loop) → T (fits binary32 c.args.a)
held-a c = subst T (sym c.well_formed.1.1.1.1.1.1.0.1) tt

held-b : (c : tie.Start invariant-loop decreases-loop) → T (fits binary32 c.args.b)
held-b c = subst T (sym c.well_formed.1.1.1.1.1.1.1.0.1) tt

abbrev begun : tie.After-ahead-middle invariant-loop decreases-loop → tie.Start invariant-loop decreases-loop
begun h = h.before.before.before.before.before.before

abbrev entered : tie.At-loop-k invariant-loop decreases-loop → tie.Start invariant-loop decreases-loop
entered l = begun l.before.before.before.before

-- The middle is no later than the end.
inside : (h : tie.After-ahead-middle invariant-loop decreases-loop) → h.ahead-middle.result ≤ (begun h).args.n
inside h = omega arith

plainly-requires : tie.Need-plainly-before-requires invariant-loop decreases-loop
plainly-requires c κs =
    let h = c.before.before in
    let b = begun h in
    let p = b.requires in
    let m = inside h in (
      record {
        order = omega arith;
        samples = omega (arith, m, p.0);
        row = omega (arith, m, p.1);
        next = omega (arith, m, p.2);
        held =
            subst (λ (z : Float). T (fits binary32 z)) (sym c.before.f32_to_f64_with_nan-from_a.ensures) (held-a b);
      },
      record {
        order = omega arith;
        samples = omega (arith, m, p.0);
        row = omega (arith, m, p.3);
        next = omega (arith, m, p.4);
        held = subst (λ (z : Float). T (fits binary32 z)) (sym c.f32_to_f64_with_nan-from_b.ensures) (held-b b);
      },
    )

loop-holds : tie.Need-loop-k-init invariant-loop decreases-loop
loop-holds c =
    let w = c.before in
    let v = w.before in
    let h = v.before in
    let a = (begun h).args in
    let r = c.plainly-before in (
      inside h,
      subst
          (λ (z : Float). Carries a.xs.now a.a0.now a.a1.now a.blend 0 h.ahead-middle.result z
          r.result.a) v.f32_to_f64_with_nan-from_a.ensures r.ensures.0,
      subst
          (λ (z : Float). Carries a.xs.now a.b0.now a.b1.now a.blend 0 h.ahead-middle.result z
          r.result.b) w.f32_to_f64_with_nan-from_b.ensures r.ensures.1,
    )

biased-runs-requires : tie.Need-biased_runs-r-requires invariant-loop decreases-loop
biased-runs-requires c κs =
    let l = c.before in
    let p = (entered l).requires in
    let i = l.loop-k.invariant in (
      record { order = i.0; samples = p.0; row = p.1; next = p.2; held = i.1.held },
      record { order = i.0; samples = p.0; row = p.3; next = p.4; held = i.2.held },
    )

stretch-requires : tie.Need-stretch-to-requires invariant-loop decreases-loop
stretch-requires c κs = c.biased_runs-r.ensures.0.last

one-by-one-requires : tie.Need-one_by_one-s-requires invariant-loop decreases-loop
one-by-one-requires c κs =
    let e = c.stretch-to.ensures in
    let p = (entered c.before.before.before).requires in
    record {
      order = e.0;
      samples = omega (arith, e.1, p.0);
      row = omega (arith, e.1, p.1);
      next = omega (arith, e.1, p.2);
      held = c.before.biased_runs-r.ensures.0.carried.held;
    }

one-by-one-requires-2 : tie.Need-one_by_one-t-requires invariant-loop decreases-loop
one-by-one-requires-2 c κs =
    let e = c.before.stretch-to.ensures in
    let p = (entered c.before.before.before.before).requires in
    record {
      order = e.0;
      samples = omega (arith, e.1, p.0);
      row = omega (arith, e.1, p.3);
      next = omega (arith, e.1, p.4);
      held = c.before.before.biased_runs-r.ensures.1.carried.held;
    }

loop-less : tie.Need-loop-k-smaller invariant-loop decreases-loop
loop-less c =
    let e = c.before.before in
    let r = e.before.biased_runs-r in
    let i = e.before.before in
    less i.before.loop-k.k r.result.k e.stretch-to.result (entered i.before).args.n i.loop-k-test.true
    r.ensures.0.first r.ensures.0.last e.stretch-to.ensures.0 e.stretch-to.ensures.1
    e.stretch-to.ensures.2

loop-again : tie.Need-loop-k-preserved invariant-loop decreases-loop
loop-again c =
    let o = c.before in
    let e = o.before in
    let r = e.before in
    let l = r.before.before in
    let a = (entered l).args in
    let i = l.loop-k.invariant in (
      e.stretch-to.ensures.1,
      on a.xs.now a.a0.now a.a1.now a.blend
          (on a.xs.now a.a0.now a.a1.now a.blend i.1 r.biased_runs-r.ensures.0.carried)
          o.one_by_one-s.ensures,
      on a.xs.now a.b0.now a.b1.now a.blend
          (on a.xs.now a.b0.now a.b1.now a.blend i.2 r.biased_runs-r.ensures.1.carried)
          c.one_by_one-t.ensures,
    )

returns : tie.Need-returns invariant-loop decreases-loop
returns c =
    let n = c.before in
    let l = n.before.before in
    let a = (entered l).args in
    let i = l.loop-k.invariant in
    let e : l.loop-k.k ≡ a.n = omega (arith, i.0, n.before.loop-k-test.false) in (
      whole a.xs.now a.a0.now a.a1.now a.blend _ a.a l.loop-k.s _ n.narrow.ensures i.1
          ∙ ap (chain_of a.xs.now a.a0.now a.a1.now a.blend a.a) e,
      whole a.xs.now a.b0.now a.b1.now a.blend _ a.b l.loop-k.t _ c.narrow-2.ensures i.2
          ∙ ap (chain_of a.xs.now a.b0.now a.b1.now a.blend a.b) e,
    )

pub together_spec : {M : Type 1} → statement M
together_spec =
    tie.close (tie.spec invariant-loop decreases-loop (λ c κs. omega arith) (λ c κs. search rules)
    (λ c κs. search rules) plainly-requires loop-holds biased-runs-requires stretch-requires one-by-one-requires
    one-by-one-requires-2 loop-less loop-again (λ c κs. search rules) (λ c κs. search rules) returns)
