use Rattle.std.proofs.Common.{◌+◌}
use Rattle.loop_laws.proofs.Filling.{Filled}
use Rattle.sinc_row.specs.Row.{at, row_of}
use Rattle.windowed_sinc.proofs.write_rows.Given as goal

abbrev pub invariant-loop-phase : goal.invariant-loop-phase
invariant-loop-phase l = Filled (row_of l.settings (at l.window)) l.taps (l.phases + 1) l.table l.phase
