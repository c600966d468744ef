-- `sinc_read::sums::held` meets its contract: one run or two, by the laws of `RoundTheEnd`. Assumes nothing.
use mathlib.Core.Path.{◌∙◌, ap}
use Prim.Native.Nat.{◌+◌, ◌-◌, ◌*◌}
use native.Mathlib.Omega.{arith}
use lib.Ieee.{Float, of_bits}
use lib.ListN.{length}
use Rattle.loop_laws.specs.Loops.{fold}
use Rattle.sinc_read.specs.Sums.{run_turn}
use Rattle.sinc_read.proofs.RoundTheEnd as around
use Rattle.sinc_read.proofs.sums.held.Goals as goal

pub returns-then-taps-left : goal.returns-then-taps-left
unfolding of_bits
returns-then-taps-left c =
    let a = c.args in
    c.run.ensures
    ∙ around.one-run a.table.now a.taps a.phase a.blend a.source.now a.place c.requires.2
    c.if-taps-left.true

pub returns : goal.returns
unfolding of_bits
returns c =
    let a = c.args in
    let left = length a.source.now - a.place in
    c.run-2.ensures
    ∙ ap (λ (v : Float). fold
    (run_turn a.table.now (a.phase * a.taps + left) (a.phase * a.taps + a.taps + left) a.blend
    a.source.now 0) v (a.taps - left)) c.run-before.ensures
    ∙ around.two_runs a.table.now a.taps a.phase a.blend a.source.now a.place c.requires.2
    c.requires.1 (omega arith)
