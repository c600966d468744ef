-- `fir_filter::four_outputs` meets its contract: four finite sums over all coefficients are all outputs. Assumes
-- nothing.
use borrow.Author.Rules.{rules}
use borrow.Author.Tests.{ne_eqb}
use mathlib.Core.Path.{◌≡◌, sym, ◌∙◌}
use Prim.Native.Nat.{◌%◌, ◌<◌}
use native.Mathlib.Nat.{mod-lt}
use native.Mathlib.Omega.{arith}
use lib.ListN.{length}
use Rattle.fir_filter.specs.Runs.{TwoRuns}
use Rattle.fir_filter.proofs.OverLags.{step_of, whole-step}
use Rattle.fir_filter.proofs.PairSums.{earlier-runs}
use Rattle.fir_filter.proofs.PairOutputs.{four-outputs}
use Rattle.fir_filter.proofs.four_outputs.Statement.{statement}
use Rattle.fir_filter.proofs.four_outputs.Tie as tie

-- The head lies in the history.
headed : (c : tie.After-place-head) → c.place-head.result
    ≡ c.before.before.before.before.before.before.args.pushes % length
    c.before.before.before.before.before.before.args.history.now
headed c = c.place-head.ensures ∙ rw (ne_eqb _ 0 c.before.if-history-eq0.false)

inside : (c : tie.After-place-head) → c.place-head.result
    < length c.before.before.before.before.before.before.args.history.now
inside c =
    let p : 0 < length c.before.before.before.before.before.before.args.history.now =
    omega (arith, c.before.if-history-eq0.false) in
    omega (arith, headed c, mod-lt c.before.before.before.before.before.before.args.pushes p)

ready : (c : tie.After-lags-lags) → let a = c.before.before.before.before.before.before.before.args in
    TwoRuns (length a.coefficients.now) (length a.history.now) c.before.place-head.result 4 3
    c.lags-lags.result
ready c =
    record {
      placed = inside c.before;
      short = c.before.before.before.if-coefficients-lt4.false;
      most = c.lags-lags.ensures.most;
      inside = c.lags-lags.ensures.inside;
    }

-- The factor is 4, and there are so many coefficients.
stepped : (c : tie.After-place-head) → let a = c.before.before.before.before.before.before.args in
    4 ≡ step_of a.factor (length a.coefficients.now)
stepped c = whole-step _ _ _ c.before.before.before.if-factor-ne4.false c.before.before.if-coefficients-lt4.false

quads-requires : tie.Need-quads-all-requires
quads-requires c κs = ready c

last-requires : tie.Need-last-first-requires
last-requires c κs = earlier-runs (omega arith) (ready c.before)

last-requires-2 : tie.Need-last-second-requires
last-requires-2 c κs = earlier-runs (omega arith) (ready c.before.before)

last-requires-3 : tie.Need-last-third-requires
last-requires-3 c κs = ready c.before.before.before

returns-4 : tie.Need-returns-then-is_finite-4
returns-4 c =
    let f = c.before in
    let g = f.before.before in
    let h = g.before.before in
    let i = h.before.before in
    let z = i.before in
    let y = z.before in
    let x = y.before in
    let q = x.before in
    let l = q.before in
    let a = l.before.before.before.before.before.before.before.args in
    four-outputs a.coefficients.now a.history.now _ _ _ _ _ (headed l.before) (stepped l.before)
    (omega arith) l.lags-lags.ensures q.quads-all.result q.quads-all.ensures x.last-first.result y.last-second.result
    z.last-third.result x.last-first.ensures y.last-second.ensures z.last-third.ensures
    (sym i.is_finite.ensures ∙ h.before.if-is_finite.true)
    (sym h.is_finite-then-is_finite.ensures ∙ g.before.if-is_finite-2.true)
    (sym g.is_finite-then-is_finite-2.ensures ∙ f.before.if-is_finite-3.true)
    (sym f.is_finite-then-is_finite-3.ensures ∙ c.if-is_finite-4.true)

pub four_outputs_spec : {M : Type 1} → statement M
four_outputs_spec =
    tie.close (tie.spec (λ c κs. search rules) (λ c. search rules) (λ c κs. search rules) (λ c. search rules)
    (λ c κs. search rules) (λ c. search rules) (λ c κs. search rules) (λ c κs. search rules) quads-requires
    last-requires last-requires-2 last-requires-3 (λ c κs. search rules) (λ c κs. search rules) (λ c κs. search rules)
    (λ c κs. search rules) returns-4 (λ c κs. search rules) (λ c. search rules))
