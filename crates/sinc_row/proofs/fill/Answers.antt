-- `sinc_row::fill` meets its contract: after k turns the row is written and summed up to tap k. Assumes nothing.
use Rattle.std.proofs.Common.{ℕ, arith}
use Rattle.std.specs.Prelude.{Float}
use Rattle.std.specs.Float.{binary64}
use Rattle.std.specs.Float.Ieee.{add, of_bits}
use Rattle.loop_laws.proofs.Folds.{none, turn}
use Rattle.loop_laws.proofs.Writing.{unwritten, written-more}
use Rattle.sinc_settings.specs.Ranges.{zero-f}
use Rattle.sinc_row.specs.Row.{at, raw_of}
use Rattle.sinc_row.proofs.Distance.{asked}
use Rattle.sinc_row.proofs.fill.Goals as goal

pub loop-k-init : goal.loop-k-init
unfolding of_bits
loop-k-init c = record { row = unwritten; gain = none _ zero-f }

pub coefficient-c-requires : goal.coefficient-c-requires
unfolding of_bits
coefficient-c-requires c =
    asked c.args.settings c.requires.0 c.args.phase c.loop-k.k c.requires.1 (omega arith)

pub loop-k-preserved : goal.loop-k-preserved
unfolding of_bits
loop-k-preserved c =
    let raw = raw_of c.args.settings (at c.args.window.now) c.args.phase in
    record {
      row = written-more c.loop-k.invariant.row (omega arith) c.coefficient-c.ensures;
      gain =
          turn (λ (k : ℕ) (gain : Float). add binary64 gain (raw k)) zero-f c.loop-k.k c.loop-k.gain _
          c.loop-k.invariant.gain (rw c.coefficient-c.ensures);
    }
