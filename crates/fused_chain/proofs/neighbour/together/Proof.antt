-- `fused_chain::neighbour::together` meets its contract: each run carries both chains' sums on. Assumes nothing.
use Rattle.std.proofs.Common.{◌≡◌, ◌-◌, ◌≤◌, T, sym, ap, ◌∙◌, subst, arith, rules}
use lib.Ieee.{Float, binary32, fits}
use Rattle.fused_chain.specs.Chain.{chain_of}
use Rattle.fused_chain.specs.Blocks.{Carries}
use Rattle.fused_chain.proofs.ChainParts.{less, stay, on, whole}
use Rattle.fused_chain.proofs.neighbour.together.Statement.{statement}
use Rattle.fused_chain.proofs.neighbour.together.Tie as tie

abbrev invariant-loop : tie.invariant-loop-k
invariant-loop xs a0 a1 blend ys b0 b1 other a b n middle s₀ t₀ k₀ s t k =
    (k ≤ n) × (Carries xs a0 a1 blend 0 k a s) × (Carries ys b0 b1 other 0 k b t)

abbrev decreases-loop : tie.decreases-loop-k
decreases-loop xs a0 a1 blend ys b0 b1 other a b n middle s₀ t₀ k₀ s t k = n - k

-- Both sums are f32 values.
held-a : (c : tie.Start invariant-loop decreases-loop) → T (fits binary32 c.args.a)
held-a c = subst T (sym c.well_formed.1.1.1.1.1.1.1.1.0.1) tt

held-b : (c : tie.Start invariant-loop decreases-loop) → T (fits binary32 c.args.b)
held-b c = subst T (sym c.well_formed.1.1.1.1.1.1.1.1.1.0.1) tt

abbrev begun : tie.After-ahead-middle invariant-loop decreases-loop → tie.Start invariant-loop decreases-loop
begun h = h.before.before.before.before.before.before.before

abbrev entered : tie.At-loop-k invariant-loop decreases-loop → tie.Start invariant-loop decreases-loop
entered l = begun l.before.before.before

-- The middle is no later than the end.
inside : (h : tie.After-ahead-middle invariant-loop decreases-loop) → h.ahead-middle.result ≤ (begun h).args.n
inside h = omega arith

loop-holds : tie.Need-loop-k-init invariant-loop decreases-loop
loop-holds c =
    let v = c.before in
    let b = begun v.before in
    let a = b.args in (
      omega arith,
      subst (λ (z : Float). Carries a.xs.now a.a0.now a.a1.now a.blend 0 0 a.a z)
          (sym v.f32_to_f64_with_nan-s.ensures)
          (stay a.xs.now a.a0.now a.a1.now a.blend 0 a.a (held-a b)),
      subst (λ (z : Float). Carries a.ys.now a.b0.now a.b1.now a.other 0 0 a.b z)
          (sym c.f32_to_f64_with_nan-t.ensures)
          (stay a.ys.now a.b0.now a.b1.now a.other 0 a.b (held-b b)),
    )

until-requires : tie.Need-until-end-requires invariant-loop decreases-loop
until-requires c κs = inside c.before.before.before.before

runs-requires : tie.Need-runs-r-requires invariant-loop decreases-loop
runs-requires c κs =
    let l = c.before.before in
    let p = (entered l).requires in
    let i = l.loop-k.invariant in
    let u = c.until-end.ensures in
    let m = u.1 c.before.loop-k-test.true in (
      record {
        order = omega (arith, m);
        samples = omega (arith, u.0, p.0.0);
        row = omega (arith, u.0, p.0.1);
        next = omega (arith, u.0, p.0.2);
        held = i.1.held;
      },
      record {
        order = omega (arith, m);
        samples = omega (arith, u.0, p.1.0);
        row = omega (arith, u.0, p.1.1);
        next = omega (arith, u.0, p.1.2);
        held = i.2.held;
      },
    )

stretch-requires : tie.Need-stretch-to-requires invariant-loop decreases-loop
stretch-requires c κs = c.runs-r.ensures.0.last

one-by-one-requires : tie.Need-one_by_one-s-requires invariant-loop decreases-loop
one-by-one-requires c κs =
    let e = c.stretch-to.ensures in
    let u = c.before.before.until-end.ensures in
    let p = (entered c.before.before.before.before).requires in
    record {
      order = e.0;
      samples = omega (arith, e.1, u.0, p.0.0);
      row = omega (arith, e.1, u.0, p.0.1);
      next = omega (arith, e.1, u.0, p.0.2);
      held = c.before.runs-r.ensures.0.carried.held;
    }

one-by-one-requires-2 : tie.Need-one_by_one-t-requires invariant-loop decreases-loop
one-by-one-requires-2 c κs =
    let o = c.before in
    let e = o.stretch-to.ensures in
    let u = o.before.before.until-end.ensures in
    let p = (entered o.before.before.before.before).requires in
    record {
      order = e.0;
      samples = omega (arith, e.1, u.0, p.1.0);
      row = omega (arith, e.1, u.0, p.1.1);
      next = omega (arith, e.1, u.0, p.1.2);
      held = o.before.runs-r.ensures.1.carried.held;
    }

loop-less : tie.Need-loop-k-smaller invariant-loop decreases-loop
loop-less c =
    let e = c.before.before in
    let r = e.before.runs-r in
    let u = e.before.before in
    let i = u.before in
    let m = u.until-end.ensures.1 i.loop-k-test.true in
    let h =
    less i.before.loop-k.k r.result.k e.stretch-to.result u.until-end.result m r.ensures.0.first
    r.ensures.0.last e.stretch-to.ensures.0 e.stretch-to.ensures.1 e.stretch-to.ensures.2 in
    omega (arith, h, m, u.until-end.ensures.0)

loop-again : tie.Need-loop-k-preserved invariant-loop decreases-loop
loop-again c =
    let o = c.before in
    let e = o.before in
    let r = e.before in
    let u = r.before in
    let l = u.before.before in
    let a = (entered l).args in
    let i = l.loop-k.invariant in (
      omega (arith, e.stretch-to.ensures.1, u.until-end.ensures.0),
      on a.xs.now a.a0.now a.a1.now a.blend
          (on a.xs.now a.a0.now a.a1.now a.blend i.1 r.runs-r.ensures.0.carried)
          o.one_by_one-s.ensures,
      on a.ys.now a.b0.now a.b1.now a.other
          (on a.ys.now a.b0.now a.b1.now a.other i.2 r.runs-r.ensures.1.carried)
          c.one_by_one-t.ensures,
    )

returns : tie.Need-returns invariant-loop decreases-loop
returns c =
    let n = c.before in
    let l = n.before.before in
    let a = (entered l).args in
    let i = l.loop-k.invariant in
    let e : l.loop-k.k ≡ a.n = omega (arith, i.0, n.before.loop-k-test.false) in (
      whole a.xs.now a.a0.now a.a1.now a.blend _ a.a l.loop-k.s _ n.narrow.ensures i.1
          ∙ ap (chain_of a.xs.now a.a0.now a.a1.now a.blend a.a) e,
      whole a.ys.now a.b0.now a.b1.now a.other _ a.b l.loop-k.t _ c.narrow-2.ensures i.2
          ∙ ap (chain_of a.ys.now a.b0.now a.b1.now a.other a.b) e,
    )

pub together_spec : {M : Type 1} → statement M
together_spec =
    tie.close (tie.spec invariant-loop decreases-loop (λ c κs. omega arith) (λ c κs. search rules)
    (λ c κs. search rules) loop-holds until-requires runs-requires stretch-requires one-by-one-requires
    one-by-one-requires-2 loop-less loop-again (λ c κs. search rules) (λ c κs. search rules) returns)
