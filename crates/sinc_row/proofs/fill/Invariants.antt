use Rattle.std.proofs.Common.{◌≡◌}
use Rattle.loop_laws.proofs.Writing.{Written}
use Rattle.sinc_row.specs.Row.{at, raw_of, gain_of}
use Rattle.sinc_row.proofs.fill.Given as goal

abbrev pub invariant-loop-k : goal.invariant-loop-k
invariant-loop-k l = record {
  row : Written (raw_of l.settings (at l.window) l.phase) l.initial.row l.row l.k;
  gain : l.gain ≡ gain_of l.settings (at l.window) l.phase l.k;
}
