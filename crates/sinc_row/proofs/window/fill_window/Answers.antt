-- `sinc_row::window::fill_window` meets its contract: after k turns the window is written up to tap k. Assumes nothing.
use Rattle.std.proofs.Common.{arith}
use Rattle.loop_laws.proofs.Writing.{unwritten, written-more}
use Rattle.sinc_row.proofs.window.fill_window.Goals as goal

pub loop-k-init : goal.loop-k-init
loop-k-init c = unwritten

pub loop-k-preserved : goal.loop-k-preserved
loop-k-preserved c = written-more c.loop-k.invariant (omega arith) c.kaiser.ensures
