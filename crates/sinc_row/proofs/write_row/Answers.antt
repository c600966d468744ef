-- `sinc_row::write_row` meets its contract: it writes the coefficients, then divides each by their sum. Assumes
-- nothing.
use borrow.Author.Tests.{not-true, not-false}
use mathlib.Core.Path.{◌≡◌, sym, ◌∙◌, ap}
use mathlib.Core.Bool.{true}
use mathlib.Core.List.{map}
use lib.ListN.{length}
use lib.Ieee.{Float, binary64, div}
use Rattle.loop_laws.specs.Loops.{list_of}
use Rattle.loop_laws.proofs.Mapped.{map-list}
use Rattle.sinc_row.specs.Row.{at, raw_of, gain_of, row_ready}
use Rattle.sinc_row.proofs.WriteTests.{row-ready}
use Rattle.sinc_row.proofs.write_row.Goals as goal
use Rattle.sinc_row.proofs.write_row.Goals.{Else-not-row_ready}

pub returns-then-not-row_ready : goal.returns-then-not-row_ready
returns-then-not-row_ready c = rw (← c.row_ready.ensures, not-true c.row_ready.result c.if-not-row_ready.true-raw)

passed : (c : Else-not-row_ready) → let a = c.args in
    row_ready a.settings a.phase (length a.row.now) (length a.window.now) ≡ true
passed c = sym c.row_ready.ensures ∙ not-false _ c.if-not-row_ready.false-raw

pub fill-gain-requires : goal.fill-gain-requires
fill-gain-requires c =
    let r = row-ready _ _ _ _ (passed (goal.at.fill-gain-requires c).Else-not-row_ready) in
    (r.row.settings, r.phase-in, r.row.long, r.window-long)

pub returns : goal.returns
returns c =
    let a = c.args in
    let raw = raw_of a.settings (at a.window.now) a.phase in
    rw (passed (goal.at.returns c).Else-not-row_ready)
    (c.divide.ensures
    ∙ ap (map (λ (x : Float). div binary64 x c.fill-gain.result)) c.fill-gain.ensures.row_after
    ∙ ap (λ (g : Float). map (λ (x : Float). div binary64 x g) (list_of raw a.settings.taps)) c.fill-gain.ensures.value
    ∙ map-list
    (λ (x : Float). div binary64 x (gain_of a.settings (at a.window.now) a.phase a.settings.taps)) raw
    a.settings.taps)
