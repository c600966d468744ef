use Rattle.std.proofs.Common.{ℕ, ◌+◌, map}
use Rattle.rounding.specs.Operations.{narrowed}
use Rattle.loop_laws.proofs.Filling.{Filled}
use Rattle.sinc_row.specs.Row.{at, row_of}
use Rattle.windowed_sinc_f32.proofs.write_rows.Given as goal

abbrev pub invariant-loop-phase : goal.invariant-loop-phase
invariant-loop-phase l =
    Filled (λ (phase : ℕ). map narrowed (row_of l.settings (at l.window) phase)) l.taps (l.phases + 1) l.table l.phase
