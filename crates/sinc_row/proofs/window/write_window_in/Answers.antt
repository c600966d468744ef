-- `sinc_row::window::write_window_in` meets its contract, by its test. Assumes nothing.
use borrow.Author.Tests.{not-true, not-false}
use mathlib.Core.Path.{◌≡◌, sym, ◌∙◌}
use mathlib.Core.Bool.{true}
use lib.ListN.{length}
use Rattle.sinc_row.specs.Row.{window_ready}
use Rattle.sinc_row.proofs.WriteTests.{window-ready}
use Rattle.sinc_row.proofs.window.write_window_in.Goals as goal
use Rattle.sinc_row.proofs.window.write_window_in.Goals.{Else-not-window_ready}

pub returns-then-not-window_ready : goal.returns-then-not-window_ready
returns-then-not-window_ready c = rw (
  ← c.window_ready.ensures,
  not-true c.window_ready.result
      c.if-not-window_ready.true-raw,
)

passed : (c : Else-not-window_ready) → let a = c.args in
    window_ready a.settings (length a.window.now) ≡ true
passed c = sym c.window_ready.ensures ∙ not-false _ c.if-not-window_ready.false-raw

pub fill_window-requires : goal.fill_window-requires
fill_window-requires c =
    let r = window-ready c.args.settings _ (passed (goal.at.fill_window-requires c).Else-not-window_ready) in
    (r.settings, r.long)

pub returns : goal.returns
returns c = rw (passed (goal.at.returns c).Else-not-window_ready) c.fill_window.ensures
