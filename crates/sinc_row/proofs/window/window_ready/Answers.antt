-- `sinc_row::window::window_ready` meets its contract, by the test of the settings. Assumes nothing.
use Rattle.sinc_row.proofs.window.window_ready.Goals as goal

pub returns-then-settings_ok : goal.returns-then-settings_ok
returns-then-settings_ok c = rw (← c.settings_ok.ensures, c.if-settings_ok.true)

pub returns-else-settings_ok : goal.returns-else-settings_ok
returns-else-settings_ok c = rw (← c.settings_ok.ensures, c.if-settings_ok.false)
