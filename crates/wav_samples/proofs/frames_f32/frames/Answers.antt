-- `wav_samples::frames_f32::frames` meets its contract, by the kind and the number of channels. Assumes nothing.
use borrow.Author.Rules.{rules}
use mathlib.Core.Path.{◌∙◌}
use Prim.Native.Nat.{ℕ, ◌*◌}
use lib.Ieee.{binary32, of_bits}
use Rattle.sample_kind.specs.declared.SampleKind.{SampleKind}
use Rattle.sample_kind.specs.Kinds.{width_of}
use Rattle.whole_samples.specs.Whole.{whole_of}
use Rattle.wav_samples.proofs.Framing.{two-channels}
use Rattle.wav_samples.proofs.Values.{pcm-frames}
use Rattle.wav_samples.proofs.frames_f32.frames.Goals as goal

pub returns-then-channels-eq1 : goal.returns-then-channels-eq1
returns-then-channels-eq1 c =
    rw (c.in-Float32.is, c.if-channels-eq1.true) (c.fill_by.ensures (of_bits binary32) (λ n x l p. p))

pub returns-else-channels-eq1 : goal.returns-else-channels-eq1
returns-else-channels-eq1 c =
    rw (c.in-Float32.is, two-channels c.requires c.if-channels-eq1.false)
    (c.fill_by-else-channels-eq1.ensures (of_bits binary32) (λ n x l p. p))

pub returns-in-Pcm16 : goal.returns-in-Pcm16
returns-in-Pcm16 c =
    c.pcm.ensures (λ (kind : SampleKind) (n : ℕ). whole_of binary32 (width_of kind * 8) n) (λ n x l p. p)
    (λ n x l p. p)
    ∙ pcm-frames binary32 c.args.kind _ _ _ _ (search rules)
