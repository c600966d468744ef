-- `windowed_sinc::write_rows` meets its contract: before each turn the rows below `phase` are written. Assumes nothing.
use Rattle.std.proofs.Common.{◌+◌, length, ◌∙◌, arith}
use Rattle.loop_laws.proofs.Filling.{Filled, lent_row, with_row, unfilled, length-lent, filled_more, filled}
use Rattle.sinc_settings.proofs.BuilderAccepted.{fitting}
use Rattle.sinc_row.specs.Row.{at, row_of}
use Rattle.sinc_row.proofs.Rows.{length-row}
use Rattle.sinc_row.proofs.WrittenRows.{row-lent}
use Rattle.windowed_sinc.specs.Table.{table_under}
use Rattle.windowed_sinc.proofs.write_rows.Goals as goal
use Rattle.windowed_sinc.proofs.write_rows.Goals.{After-write_row}

pub loop-phase-init : goal.loop-phase-init
loop-phase-init c = unfilled _ _ _ _ (fitting c.args.settings (length c.args.table.now) c.requires.0).long

-- The rows up to `phase` are written.
more : (c : After-write_row)
    → let s = c.args.settings in
    Filled (row_of s (at c.args.window.now)) s.taps (s.phases + 1)
    (with_row s.taps c.loop-phase.table c.loop-phase.phase c.write_row.new.row) (c.loop-phase.phase + 1)
more c =
    let s = c.args.settings in
    let v = c.args.window.now in
    let l = c.loop-phase in
    let w = length-lent (row_of s (at v)) s.taps (s.phases + 1) l.table l.phase l.invariant (omega arith) in
    let good = fitting s (length c.args.table.now) c.requires.0 in
    filled_more (row_of s (at v)) s.taps (s.phases + 1) l.table l.phase l.invariant (omega arith) _
    (c.write_row.ensures
    ∙ row-lent s v (lent_row s.taps l.table l.phase) l.phase good.settings c.requires.1 (omega arith) w)
    (length-row s (at v) l.phase)

pub loop-phase-preserved : goal.loop-phase-preserved
loop-phase-preserved c = more (goal.at.loop-phase-preserved c).After-write_row

pub returns-2 : goal.returns-2
unfolding table_under
returns-2 c = filled _ _ _ _ _ (more (goal.at.returns-2 c).After-write_row) (omega arith)
