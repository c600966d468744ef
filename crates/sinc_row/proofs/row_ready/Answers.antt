-- `sinc_row::row_ready` meets its contract, test by test. Assumes nothing.
use borrow.Author.Tests.{le-leb, lt-leb}
use Rattle.sinc_row.proofs.row_ready.Goals as goal

pub returns-then-phase-settings : goal.returns-then-phase-settings
returns-then-phase-settings c =
    rw (← c.window_ready.ensures, c.if-window_ready.true, le-leb _ _ c.if-phase-settings.true)

pub returns-else-phase-settings : goal.returns-else-phase-settings
returns-else-phase-settings c =
    rw (← c.window_ready.ensures, c.if-window_ready.true, lt-leb _ _ c.if-phase-settings.false)

pub returns-else-window_ready : goal.returns-else-window_ready
returns-else-window_ready c = rw (← c.window_ready.ensures, c.if-window_ready.false)
