-- `sinc_settings::refusal` meets its contract, by the test of the settings. Assumes nothing.
use mathlib.Core.Path.{sym, ◌∙◌}
use Rattle.sinc_settings.proofs.SettingsInRange.{accepted}
use Rattle.sinc_settings.proofs.refusal.Goals as goal

pub returns-then-settings_ok : goal.returns-then-settings_ok
returns-then-settings_ok c =
    let ok = sym c.settings_ok.ensures ∙ c.if-settings_ok.true in
    c.table_refusal.ensures ∙ rw (ok, (accepted _ ok).counted)

pub returns-else-settings_ok : goal.returns-else-settings_ok
returns-else-settings_ok c = rw (← c.settings_ok.ensures, c.if-settings_ok.false)
