-- `wave_file::header::walk_all` meets its contract: each turn of the loop adds one head. Assumes nothing.
use mathlib.Core.Path.{refl, ap}
use Rattle.riff_chunks.specs.declared.Walking.{Walking}
use Rattle.wave_file.specs.declared.header.Walk.TheVariants.{Done}
use Rattle.wave_file.specs.Inside.Walks.{done, broken}
use Rattle.wave_file.proofs.Walking.{at_first, fewer, onwards}
use Rattle.wave_file.proofs.header.walk_all.Goals as goal

pub loop-walking-init : goal.loop-walking-init
loop-walking-init c = at_first _ _ _ c.begin-walking.ensures

pub loop-walking-smaller : goal.loop-walking-smaller
loop-walking-smaller c =
    fewer _ _ _ c.in-Walking.is c.one_turn-turned.ensures c.loop-walking-test.true

pub loop-walking-preserved : goal.loop-walking-preserved
loop-walking-preserved c =
    onwards _ _ _ c.in-Walking.is c.one_turn-turned.ensures c.loop-walking.invariant

pub returns : goal.returns
returns c =
    let h = c.loop-walking.invariant in
    done h.heads (rw h.is at c.loop-walking-test.false) (ap (λ (w : Walking). Done w.seen) h.is)

pub returns-in-Broken : goal.returns-in-Broken
returns-in-Broken c = broken _ refl
