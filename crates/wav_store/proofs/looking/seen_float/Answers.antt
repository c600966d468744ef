-- `wav_store::looking::seen_float` meets its contract: before each turn the digits are those of the samples so far.
-- Assumes nothing.
use mathlib.Core.Path.{refl, ◌∙◌}
use native.Mathlib.Omega.{arith}
use Rattle.std.proofs.Common.{rules}
use Rattle.sample_kind.specs.declared.SampleKind.TheVariants.{Float32}
use Rattle.stored_samples.specs.Stored.{fits_in}
use Rattle.wav_store.proofs.Looked.{fits-each, seen_by}
use Rattle.wav_store.proofs.Sight.{unsighted, sighted-more, all-fit, all_plain}
use Rattle.wav_store.proofs.looking.seen_float.Goals as goal

pub loop-x-preserved : goal.loop-x-preserved
loop-x-preserved c =
    let l = c.loop-x in
    sighted-more l.invariant _ (omega arith) c.cut-b.ensures

pub returns-then-every-eq4323455642275676160 : goal.returns-then-every-eq4323455642275676160
returns-then-every-eq4323455642275676160 c =
    let l = c.loop-x in
    (refl, all_plain l.invariant (omega arith) c.if-some-eq0.true c.if-every-eq4323455642275676160.true)

pub returns-then-some-eq0 : goal.returns-then-some-eq0
returns-then-some-eq0 c =
    let l = c.loop-x in
    all-fit l.invariant (omega arith) c.if-some-eq0.true

pub returns : goal.returns
returns c =
    rw c.number.ensures
    (seen_by _ _ _ (c.all_pass.ensures (fits_in Float32) (λ x r h. search rules) ∙ fits-each Float32 _))

pub loop-x-init : goal.loop-x-init
loop-x-init c = unsighted
