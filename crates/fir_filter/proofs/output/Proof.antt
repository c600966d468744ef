-- `fir_filter::output` meets its contract: a finite sum over all coefficients is the sum without those of 0.0. Assumes
-- nothing.
use borrow.Author.Rules.{rules}
use borrow.Author.Tests.{ne_eqb}
use mathlib.Core.Path.{◌≡◌, refl, sym, ◌∙◌}
use mathlib.Core.List.{List, [], ◌∷◌}
use Prim.Native.Nat.{ℕ, ◌%◌, ◌<◌}
use native.Mathlib.Nat.{mod-lt}
use native.Mathlib.Omega.{arith}
use lib.ListN.{length}
use lib.Ieee.{Float, of_bits}
use Rattle.constants.specs.Numbers.{zero-f}
use Rattle.loop_laws.specs.Loops.{fold}
use Rattle.fir_filter.specs.Filters.{output_of}
use Rattle.fir_filter.specs.Runs.{TwoRuns}
use Rattle.fir_filter.proofs.OverLags.{smaller, plain-sum, tested-sum}
use Rattle.fir_filter.proofs.output.Statement.{statement}
use Rattle.fir_filter.proofs.output.Tie as tie

-- An empty history adds nothing.
empty : (cs history : List Float) (pushes factor phase : ℕ) → length history ≡ 0
    → zero-f ≡ output_of cs history pushes factor phase
unfolding output_of fold
empty cs [] pushes factor phase h = refl
empty cs (x ∷ xs) pushes factor phase h = absurd (omega arith)

returns : tie.Need-returns-then-history-eq0
unfolding of_bits
returns c = let a = c.before.before.before.args in empty a.coefficients.now _ _ _ _ c.if-history-eq0.true

-- The head lies in the history.
headed : (c : tie.After-place-head) → let a = c.before.before.before.before.args in
    c.place-head.result ≡ a.pushes % length a.history.now
headed c = c.place-head.ensures ∙ rw (ne_eqb _ 0 c.before.if-history-eq0.false)

inside : (c : tie.After-place-head) → c.place-head.result < length c.before.before.before.before.args.history.now
inside c =
    let a = c.before.before.before.before.args in
    let p : 0 < length a.history.now = omega (arith, c.before.if-history-eq0.false) in
    omega (arith, headed c, mod-lt a.pushes p)

ready : (c : tie.After-lags-lags) → let a = c.before.before.before.before.before.before.args in
    TwoRuns (length a.coefficients.now) (length a.history.now) c.before.before.place-head.result
    c.before.least-step.result a.phase c.lags-lags.result
ready c =
    record {
      placed = inside c.before.before;
      short = smaller _ _ _ c.before.least-step.ensures;
      most = c.lags-lags.ensures.most;
      inside = c.lags-lags.ensures.inside;
    }

plain-requires : tie.Need-plain-sum-requires
plain-requires c κs = ready c

returns-2 : tie.Need-returns-then-is_finite
returns-2 c =
    let p = c.before.before in
    let l = p.before in
    let a = l.before.before.before.before.before.before.args in
    plain-sum a.coefficients.now a.history.now _ _ _ _ _ _ (headed l.before.before)
    l.before.least-step.ensures l.lags-lags.ensures p.plain-sum.result p.plain-sum.ensures
    (sym c.before.is_finite.ensures ∙ c.if-is_finite.true)

tested-requires : tie.Need-tested-requires
tested-requires c κs = ready c.before.before.before

returns-3 : tie.Need-returns
returns-3 c =
    let l = c.before.before.before.before in
    let a = l.before.before.before.before.before.before.args in
    c.tested.ensures
    ∙ tested-sum a.coefficients.now a.history.now _ _ _ _ _ _ (headed l.before.before)
    l.before.least-step.ensures l.lags-lags.ensures

pub output_spec : {M : Type 1} → statement M
output_spec =
    tie.close (tie.spec returns (λ c κs. search rules) (λ c κs. search rules) (λ c κs. search rules) plain-requires
    (λ c κs. search rules) returns-2 tested-requires returns-3)
