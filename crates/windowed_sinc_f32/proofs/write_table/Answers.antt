-- `windowed_sinc_f32::write_table` meets its contract: the front of the buffer is Kaiser's window, and the rows are
-- written under it. Assumes nothing.
use mathlib.Core.Path.{ap, ◌∙◌}
use mathlib.Core.List.{map}
use native.Mathlib.Omega.{arith}
use lib.ListN.{length}
use Rattle.rounding.specs.Operations.{narrowed}
use Rattle.sinc_settings.proofs.BuilderAccepted.{Fitting, fitting}
use Rattle.windowed_sinc.proofs.Building.{most, window-fits, window-long, table-made}
use Rattle.windowed_sinc_f32.proofs.write_table.Goals as goal
use Rattle.windowed_sinc_f32.proofs.write_table.Goals.{Start}

lent : (c : Start) → Fitting c.args.settings (length c.args.table.now)
lent c = fitting _ _ c.requires

pub slice_bounds-write_rows-end : goal.slice_bounds-write_rows-end
slice_bounds-write_rows-end c =
    window-fits (lent (goal.at.slice_bounds-write_rows-end c).Start) _ _ _ c.write_window_in.ensures

pub write_rows-requires : goal.write_rows-requires
write_rows-requires c =
    (c.requires, window-long (lent (goal.at.write_rows-requires c).Start) _ _ _ c.write_window_in.ensures)

pub returns : goal.returns
returns c =
    c.write_rows.ensures ∙ ap (map narrowed) (table-made (lent (goal.at.returns c).Start) _ _ _
    c.write_window_in.ensures)

pub slice_bounds-window-end : goal.slice_bounds-window-end
slice_bounds-window-end c = omega (arith, (most (lent (goal.at.slice_bounds-window-end c).Start)).0)
