-- `quality_stretch::rest::read_on` meets its contract: by `Handed` in Draft and if the quality reads one table,
-- otherwise item by item. Assumes nothing.
use mathlib.Core.Path.{sym, ap, ◌∙◌}
use native.Mathlib.Omega.{arith}
use lib.ListN.{length}
use Rattle.bank_read.proofs.OneTable.{one_table-held}
use Rattle.quality_stretch.proofs.Handed.{handed_over}
use Rattle.quality_stretch.proofs.ByTable.{handed}
use Rattle.quality_stretch.proofs.InDraft.{in-draft}
use Rattle.quality_stretch.proofs.rest.read_on.Goals as goal

pub shape_of-ring-then-same : goal.shape_of-ring-then-same
shape_of-ring-then-same c = c.process_stretch-a.auto.ring

pub shape_of-out-then-same : goal.shape_of-out-then-same
shape_of-out-then-same c = c.process_stretch-a.auto.out

pub returns-then-same : goal.returns-then-same
returns-then-same c =
    let a = c.args in
    rw (c.ended.ensures, c.counted.ensures)
    (handed_over a.sets.now a.max_rate a.quality a.playback_rate a.state a.ring.now a.inputs.now
    a.delays.now a.out.now
    (in-draft a.sets.now a.max_rate a.quality a.playback_rate a.state a.ring.now a.inputs.now
    a.delays.now a.out.now (sym c.same.ensures ∙ c.if-same.true) c.requires.0 c.requires.2
    c.requires.3)
    c.requires.0 c.requires.1 c.requires.2 c.requires.3 c.process_stretch-a.ensures)

pub shape_of-ring-then-table-gt0 : goal.shape_of-ring-then-table-gt0
shape_of-ring-then-table-gt0 c = c.process_stretch-a-then-table-gt0.auto.ring

pub shape_of-out-then-table-gt0 : goal.shape_of-out-then-table-gt0
shape_of-out-then-table-gt0 c = c.process_stretch-a-then-table-gt0.auto.out

pub returns-then-table-gt0 : goal.returns-then-table-gt0
returns-then-table-gt0 c =
    let a = c.args in
    let e = c.one_table-table.ensures in
    let some = c.if-table-gt0.true in
    let found =
    one_table-held c.choice_or_zero-choice.result a.quality a.sets.now (λ z. omega (arith, some, ap length e, z)) in
    rw (c.ended-then-table-gt0.ensures, c.counted-then-table-gt0.ensures)
    (handed a.sets.now a.max_rate a.quality a.playback_rate a.state a.ring.now a.inputs.now
    a.delays.now a.out.now _ c.choice_or_zero-choice.ensures found
    c.requires.0 c.requires.1 c.requires.2 c.requires.3
    (rw (e, c.taps-taps.ensures, c.phases-phases.ensures) at c.process_stretch-a-then-table-gt0.ensures))

pub read_each-requires : goal.read_each-requires
read_each-requires c =
    c.requires

pub shape_of-ring : goal.shape_of-ring
shape_of-ring c = c.read_each.auto.ring

pub shape_of-out : goal.shape_of-out
shape_of-out c = c.read_each.auto.out

pub returns : goal.returns
returns c = c.read_each.ensures
