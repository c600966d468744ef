-- `sinc_settings::rate_refusal` meets its contract, by the test of the rate and the passband. Assumes nothing.
use mathlib.Core.Path.{◌≡◌, sym, ◌∙◌}
use mathlib.Core.Bool.{◌&&◌}
use Rattle.sinc_settings.specs.Ranges.{rate_ok, passband_ok}
use Rattle.sinc_settings.proofs.rate_refusal.Goals as goal
use Rattle.sinc_settings.proofs.rate_refusal.Goals.{After-rate_ok}

tested : (c : After-rate_ok) → let a = c.args in
    rate_ok a.rate && passband_ok a.passband ≡ c.rate_ok.result
tested c = sym c.rate_ok.ensures

pub returns-then-rate_ok : goal.returns-then-rate_ok
returns-then-rate_ok c = c.refusal.ensures ∙ rw (tested (goal.at.returns-then-rate_ok c).After-rate_ok
    ∙ c.if-rate_ok.true)

pub returns-else-rate_ok : goal.returns-else-rate_ok
returns-else-rate_ok c = rw (tested (goal.at.returns-else-rate_ok c).After-rate_ok ∙ c.if-rate_ok.false)
