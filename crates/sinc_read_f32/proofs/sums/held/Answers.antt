-- `sinc_read_f32::sums::held` meets its contract: the samples are adjacent, or go up to the ring's end and on from its
-- start. Assumes nothing.
use mathlib.Core.Path.{◌∙◌}
use native.Mathlib.Omega.{arith}
use Rattle.sinc_read_f32.proofs.Chains.{one-run, first_run, second_run}
use Rattle.sinc_read_f32.proofs.sums.held.Goals as goal

pub returns-then-n-left : goal.returns-then-n-left
returns-then-n-left c =
    let a = c.args in
    c.over.ensures
    ∙ one-run a.source.now a.table.now a.blend a.taps a.phase a.place a.n c.requires.2
    c.requires.3 (omega arith)

pub returns : goal.returns
returns c =
    let a = c.args in
    let first =
    c.over-before.ensures
    ∙ first_run a.source.now a.table.now a.blend a.taps a.phase a.place a.n c.requires.2
    c.requires.3 in
    c.over-2.ensures
    ∙ second_run a.source.now a.table.now a.blend a.taps a.phase a.place a.n c.requires.2
    c.requires.3 c.over-before.result (omega arith) first
