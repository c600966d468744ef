-- `fused_chain::single::chain` meets its contract: each run carries the chain's sum on. Assumes nothing.
use Rattle.std.proofs.Common.{◌-◌, ◌≤◌, T, sym, ap, ◌∙◌, subst, arith, rules}
use lib.Ieee.{Float, binary32, fits}
use Rattle.fused_chain.specs.Chain.{chain_of}
use Rattle.fused_chain.specs.Blocks.{Carries}
use Rattle.fused_chain.proofs.ChainParts.{less, on, whole}
use Rattle.fused_chain.proofs.single.chain.Statement.{statement}
use Rattle.fused_chain.proofs.single.chain.Tie as tie

abbrev invariant-loop : tie.invariant-loop-k
invariant-loop xs row0 row1 blend sum n middle wide held₀ k₀ held k =
    (k ≤ n) × (Carries xs row0 row1 blend 0 k sum held)

abbrev decreases-loop : tie.decreases-loop-k
decreases-loop xs row0 row1 blend sum n middle wide held₀ k₀ held k = n - k

held : (c : tie.Start invariant-loop decreases-loop) → T (fits binary32 c.args.sum)
held c = subst T (sym c.well_formed.1.1.1.1.0.1) tt

least-requires : tie.Need-least-requires invariant-loop decreases-loop
least-requires c κs = search rules

least-requires-2 : tie.Need-least-n-requires invariant-loop decreases-loop
least-requires-2 c κs = search rules

ahead-requires : tie.Need-ahead-middle-requires invariant-loop decreases-loop
ahead-requires c κs = omega arith

f32-to-f64-with-nan-requires : tie.Need-f32_to_f64_with_nan-wide-requires invariant-loop decreases-loop
f32-to-f64-with-nan-requires c κs = search rules

plainly-requires : tie.Need-plainly-held-requires invariant-loop decreases-loop
plainly-requires c κs =
    let b = c.before.before.before.before.before.before.before in
    record {
      order = omega arith;
      samples = omega arith;
      row = omega arith;
      next = omega arith;
      held = subst (λ (z : Float). T (fits binary32 z)) (sym c.f32_to_f64_with_nan-wide.ensures) (held b);
    }

loop-holds : tie.Need-loop-k-init invariant-loop decreases-loop
loop-holds c =
    let w = c.before in
    let a = w.before.before.before.before.before.before.before.args in (
      omega arith,
      subst
          (λ (z : Float). Carries a.xs.now a.row0.now a.row1.now a.blend 0
          w.before.ahead-middle.result z
          c.plainly-held.result)
          w.f32_to_f64_with_nan-wide.ensures c.plainly-held.ensures,
    )

biased-run-requires : tie.Need-biased_run-r-requires invariant-loop decreases-loop
biased-run-requires c κs =
    let l = c.before in
    record {
      order = l.loop-k.invariant.0;
      samples = omega arith;
      row = omega arith;
      next = omega arith;
      held = l.loop-k.invariant.1.held;
    }

stretch-requires : tie.Need-stretch-to-requires invariant-loop decreases-loop
stretch-requires c κs = c.biased_run-r.ensures.last

one-by-one-requires : tie.Need-one_by_one-held-requires invariant-loop decreases-loop
one-by-one-requires c κs =
    let r = c.before.biased_run-r.ensures in
    record {
      order = c.stretch-to.ensures.0;
      samples = omega arith;
      row = omega arith;
      next = omega arith;
      held = r.carried.held;
    }

loop-less : tie.Need-loop-k-smaller invariant-loop decreases-loop
loop-less c =
    let e = c.before in
    let r = e.before.biased_run-r in
    let k = e.before.before.before.loop-k.k in
    let n = e.before.before.before.before.before.before.before.least-n.result in
    less k r.result.k e.stretch-to.result n e.before.before.loop-k-test.true r.ensures.first
    r.ensures.last e.stretch-to.ensures.0 e.stretch-to.ensures.1 e.stretch-to.ensures.2

loop-again : tie.Need-loop-k-preserved invariant-loop decreases-loop
loop-again c =
    let e = c.before in
    let r = e.before in
    let l = r.before.before in
    let a = l.before.before.before.before.before.before.before.before.before.args in (
      e.stretch-to.ensures.1,
      on a.xs.now a.row0.now a.row1.now a.blend
          (on a.xs.now a.row0.now a.row1.now a.blend l.loop-k.invariant.1
          r.biased_run-r.ensures.carried) c.one_by_one-held.ensures,
    )

narrow-requires : tie.Need-narrow-requires invariant-loop decreases-loop
narrow-requires c κs = search rules

returns : tie.Need-returns invariant-loop decreases-loop
returns c =
    let l = c.before.before in
    let a = l.before.before.before.before.before.before.before.before.before.args in
    whole a.xs.now a.row0.now a.row1.now a.blend _ a.sum l.loop-k.held _ c.narrow.ensures
    l.loop-k.invariant.1
    ∙ ap (chain_of a.xs.now a.row0.now a.row1.now a.blend a.sum) (omega arith)

pub chain_spec : {M : Type 1} → statement M
chain_spec =
    tie.close (tie.spec invariant-loop decreases-loop least-requires least-requires-2 ahead-requires
    f32-to-f64-with-nan-requires plainly-requires loop-holds biased-run-requires stretch-requires one-by-one-requires
    loop-less loop-again narrow-requires returns)
