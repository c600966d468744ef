-- `wav_store::turns::every` meets its contract: before each turn the digits are those of the samples so far. Assumes
-- nothing.
use Prim.Native.Nat.{◌+◌, ◌<◌}
use native.Mathlib.Omega.{arith}
use lib.ListN.{length}
use Rattle.sample_kind.specs.declared.SampleKind.TheVariants.{Float32}
use Rattle.wav_store.proofs.Looked.{each_fits}
use Rattle.wav_store.proofs.Sight.{unshared, shared-more}
use Rattle.wav_store.proofs.turns.every.Goals as goal

pub pattern-all-requires : goal.pattern-all-requires
pattern-all-requires c =
    each_fits Float32 c.args.samples.now (c.args.i + c.loop-k.k) _ c.requires.fit
    (omega (arith, c.requires.room))

pub loop-k-preserved : goal.loop-k-preserved
loop-k-preserved c =
    let l = c.loop-k in
    let h : c.args.i + l.k < length c.args.samples.now = omega (arith, c.requires.room) in
    shared-more l.invariant _ (omega arith) h
    (each_fits Float32 c.args.samples.now (c.args.i + l.k) _ c.requires.fit h) c.pattern-all.ensures

pub returns : goal.returns
returns c e k h d = c.loop-k.invariant.plain e k (omega (arith, h)) d

pub loop-k-init : goal.loop-k-init
loop-k-init c = unshared
