-- `fir_filter::outputs` meets its contract: two finite sums over all coefficients are both outputs. Assumes nothing.
use borrow.Author.Rules.{rules}
use borrow.Author.Tests.{ne_eqb}
use mathlib.Core.Path.{◌≡◌, sym, ap, ◌∙◌}
use Prim.Native.Nat.{◌+◌, ◌%◌, ◌<◌}
use native.Mathlib.Nat.{mod-lt}
use native.Mathlib.Omega.{arith}
use lib.ListN.{length}
use lib.Ieee.{Float, of_bits}
use Rattle.constants.specs.Numbers.{zero-f}
use Rattle.fir_filter.specs.Runs.{TwoRuns}
use Rattle.fir_filter.specs.Pairs.{two_of}
use Rattle.fir_filter.proofs.OverLags.{step_of, whole-step, beyond-taps}
use Rattle.fir_filter.proofs.PairOutputs.{two-outputs}
use Rattle.fir_filter.proofs.outputs.Statement.{statement}
use Rattle.fir_filter.proofs.outputs.Tie as tie

returns : tie.Need-returns-then-phase-coefficients
unfolding of_bits
returns c =
    let a = c.before.before.before.args in
    let out = beyond-taps a.coefficients.now a.history.now a.pushes a.factor in
    ap (λ (x : Float). two_of x zero-f) (out a.phase c.if-phase-coefficients.true)
    ∙ ap (two_of _) (out (a.phase + 1) (omega (arith, c.if-phase-coefficients.true)))

-- The head lies in the history.
headed : (c : tie.After-place-head) → c.place-head.result
    ≡ c.before.before.before.before.before.before.before.args.pushes % length
    c.before.before.before.before.before.before.before.args.history.now
headed c = c.place-head.ensures ∙ rw (ne_eqb _ 0 c.before.if-history-eq0.false)

inside : (c : tie.After-place-head) → c.place-head.result
    < length c.before.before.before.before.before.before.before.args.history.now
inside c =
    let p : 0 < length c.before.before.before.before.before.before.before.args.history.now =
    omega (arith, c.before.if-history-eq0.false) in
    omega (arith, headed c, mod-lt c.before.before.before.before.before.before.before.args.pushes p)

ready : (c : tie.After-lags-lags) → let a = c.before.before.before.before.before.before.before.before.args in
    TwoRuns (length a.coefficients.now) (length a.history.now) c.before.place-head.result 2 (a.phase + 1)
    c.lags-lags.result
ready c =
    record {
      placed = inside c.before;
      short = c.before.before.before.if-coefficients-lt2.false;
      most = c.lags-lags.ensures.most;
      inside = c.lags-lags.ensures.inside;
    }

-- The factor is 2, and there are so many coefficients.
stepped : (c : tie.After-place-head) → let a = c.before.before.before.before.before.before.before.args in
    2 ≡ step_of a.factor (length a.coefficients.now)
stepped c = whole-step _ _ _ c.before.before.before.if-factor-ne2.false c.before.before.if-coefficients-lt2.false

two-requires : tie.Need-two-both-requires
two-requires c κs = ready c

last-requires : tie.Need-last-first-requires
last-requires c κs = ready c.before

returns-5 : tie.Need-returns-then-is_finite-2
returns-5 c =
    let f = c.before.before.before in
    let t = f.before.before in
    let l = t.before in
    let a = l.before.before.before.before.before.before.before.before.args in
    two-outputs a.coefficients.now a.history.now _ _ _ _ _ _ (headed l.before) (stepped l.before)
    (omega arith) l.lags-lags.ensures t.two-both.result t.two-both.ensures
    f.before.last-first.result f.before.last-first.ensures (sym f.is_finite.ensures ∙ c.before.before.if-is_finite.true)
    (sym c.before.is_finite-then-is_finite.ensures ∙ c.if-is_finite-2.true)

pub outputs_spec : {M : Type 1} → statement M
outputs_spec =
    tie.close (tie.spec returns (λ c κs. search rules) (λ c. search rules) (λ c κs. search rules) (λ c. search rules)
    (λ c κs. search rules) (λ c. search rules) (λ c κs. search rules) (λ c. search rules) (λ c κs. search rules)
    two-requires last-requires (λ c κs. search rules) (λ c κs. search rules) returns-5 (λ c κs. search rules)
    (λ c. search rules))
