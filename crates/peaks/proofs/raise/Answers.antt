-- `peaks::raise` meets its contract, by whether the place exists. Assumes nothing.
use mathlib.Core.Path.{sym}
use native.Mathlib.Omega.{arith}
use borrow.Author.Rules.{rules}
use lib.Seq.{set_out}
use Rattle.peaks.specs.Peaks.{raised}
use Rattle.peaks.proofs.raise.Goals as goal

pub returns-then-at-peaks : goal.returns-then-at-peaks
unfolding raised
returns-then-at-peaks c = search rules

pub returns-else-at-peaks : goal.returns-else-at-peaks
unfolding raised
returns-else-at-peaks c = sym (set_out c.args.peaks.now c.args.at _ (omega arith))
