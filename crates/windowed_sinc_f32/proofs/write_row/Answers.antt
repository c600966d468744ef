-- `windowed_sinc_f32::write_row` meets its contract: the front of the buffer is the row in f64, which is rounded into
-- place. Assumes nothing.
use mathlib.Core.Path.{◌≡◌, ap, ◌∙◌}
use mathlib.Core.List.{map}
use Prim.Native.Nat.{◌-◌}
use native.Mathlib.Omega.{arith}
use lib.ListN.{length, take}
use Rattle.rounding.specs.Operations.{narrowed}
use Rattle.loop_laws.proofs.Scratch.{front_fits, front-again}
use Rattle.sinc_settings.proofs.SettingsInRange.{counts, accepted}
use Rattle.sinc_row.specs.Row.{at, row_of}
use Rattle.sinc_row.proofs.Rows.{length-row}
use Rattle.sinc_row.proofs.WrittenRows.{scratch, scratch-long, row-lent}
use Rattle.windowed_sinc_f32.proofs.write_row.Goals as goal
use Rattle.windowed_sinc_f32.proofs.write_row.Goals.{After-write_row}

pub slice_bounds-scratch-end : goal.slice_bounds-scratch-end
slice_bounds-scratch-end c =
    let s = c.args.settings in
    omega (arith, (counts s.taps s.phases (accepted s c.requires.0).counted).most-taps)

-- The row in f64.
made : (c : After-write_row) → let a = c.args in
    c.write_row.new.row ≡ row_of a.settings (at a.window.now) a.phase
made c =
    let s = c.args.settings in
    c.write_row.ensures
    ∙ row-lent s c.args.window.now (take (s.taps - 0) scratch) c.args.phase c.requires.0 c.requires.1
    c.requires.2 (scratch-long s c.requires.0)

long : (c : After-write_row) → length c.write_row.new.row ≡ c.args.settings.taps
long c = let a = c.args in ap length (made c) ∙ length-row a.settings (at a.window.now) a.phase

pub slice_bounds-narrow_row-end : goal.slice_bounds-narrow_row-end
slice_bounds-narrow_row-end c = front_fits c.write_row.new.row _ _
    (long (goal.at.slice_bounds-narrow_row-end c).After-write_row)

pub returns : goal.returns
returns c =
    c.narrow_row.ensures
    ∙ ap (map narrowed) (front-again c.write_row.new.row _ c.args.settings.taps
    (long (goal.at.returns c).After-write_row) ∙ made (goal.at.returns c).After-write_row)
