-- `filter_settings::latency_samples` meets its contract: both counts are exact as floats. Assumes nothing.
use borrow.Author.Rules.{rules}
use borrow.Author.Tests.{not-true, not-false}
use mathlib.Core.Path.{◌≡◌, sym, ◌∙◌}
use mathlib.Core.Bool.{true, ◌&&◌}
use native.Mathlib.Omega.{arith}
use lib.Ieee.{of_bits}
use Rattle.filter_settings.specs.Ranges.{taps_ok, factor_ok}
use Rattle.filter_settings.proofs.InRange.{Taps, taps-in, factor-in, both-in, exact}
use Rattle.filter_settings.proofs.latency_samples.Statement.{statement}
use Rattle.filter_settings.proofs.latency_samples.Tie as tie

tested : (c : tie.After-both) → let a = c.before.before.before.args in
    taps_ok a.taps && factor_ok a.factor ≡ c.both.result
tested c = sym (c.both.ensures ∙ rw (c.before.factor_ok.ensures, c.before.before.taps_ok.ensures))

passed : (c : tie.Else-not-both) → let a = c.before.before.before.before.args in
    taps_ok a.taps && factor_ok a.factor ≡ true
passed c = tested c.before ∙ not-false _ c.if-not-both.false-raw

returns : tie.Need-returns-then-not-both
unfolding of_bits
returns c = rw (tested c.before, not-true c.before.both.result c.if-not-both.true-raw)

taps-good : (c : tie.Else-not-both) → Taps c.before.before.before.before.args.taps
taps-good c = taps-in _ (both-in _ _ (passed c)).0

sub-result : tie.Need-overflow_sub-result
sub-result c = omega (arith, (taps-good c).least)

int-to-float-result : tie.Need-int_to_float-result
int-to-float-result c = exact _ (omega (arith, (taps-good c.before).most))

int-to-float-result-2 : tie.Need-int_to_float-result-2
int-to-float-result-2 c =
    let e = c.before.before in
    let a = e.before.before.before.before.args in
    exact _ (omega (arith, factor-in a.factor (both-in (taps_ok a.taps) (factor_ok a.factor) (passed e)).1))

returns-2 : tie.Need-returns
returns-2 c = rw (passed c.before.before)

pub latency_samples_spec : {M : Type 1} → statement M
latency_samples_spec =
    tie.close (tie.spec (λ c κs. search rules) (λ c κs. search rules) (λ c κs. search rules) returns sub-result
    int-to-float-result int-to-float-result-2 returns-2)
