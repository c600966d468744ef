use Rattle.loop_laws.proofs.Writing.{Written}
use Rattle.sinc_row.specs.Coefficient.{window_in}
use Rattle.sinc_row.proofs.window.fill_window.Given as goal

abbrev pub invariant-loop-k : goal.invariant-loop-k
invariant-loop-k l = Written (window_in l.mode l.settings) l.initial.window l.window l.k
