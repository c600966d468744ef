-- `form_chunks::walk_to` meets its contract, by the laws of the steps of a walk, for the chunks of a FORM. Assumes
-- nothing.
use mathlib.Core.Path.{refl}
use native.Mathlib.Omega.{arith}
use Rattle.riff_chunks.proofs.ByTurns.{fewer, on-begun, on-turned, on-ended}
use Rattle.form_chunks.specs.Form.{form_chunk, form_sought}
use Rattle.form_chunks.proofs.walk_to.Goals as goal

pub loop-walking-init : goal.loop-walking-init
loop-walking-init c =
    rw c.begin-walking.ensures (on-begun form_sought (form_chunk c.args.file.now) (λ at. refl) c.args.end)

pub overflow_sub-end : goal.overflow_sub-end
overflow_sub-end c = c.loop-walking.invariant.inside

pub chunk_at-c-requires : goal.chunk_at-c-requires
chunk_at-c-requires c =
    omega (arith, c.ranges.end, c.loop-walking.invariant.inside)

pub loop-walking-smaller : goal.loop-walking-smaller
loop-walking-smaller c =
    rw c.turn-walking.ensures
    (fewer c.form_sought-sought.result c.loop-walking.walking c.chunk_at-c.result c.loop-walking-test.true)

pub loop-walking-preserved : goal.loop-walking-preserved
loop-walking-preserved c =
    rw (c.turn-walking.ensures, c.form_sought-sought.ensures)
    (on-turned form_sought (form_chunk c.args.file.now) (λ at. refl) c.args.end c.loop-walking.walking
    c.chunk_at-c.result c.loop-walking-test.true c.chunk_at-c.ensures c.loop-walking.invariant)

pub returns : goal.returns
returns c =
    on-ended form_sought (form_chunk c.args.file.now) (λ at. refl) c.args.end c.loop-walking.walking
    c.loop-walking-test.false c.loop-walking.invariant
