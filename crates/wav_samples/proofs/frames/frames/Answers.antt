-- `wav_samples::frames::frames` meets its contract, by the kind and the number of channels. Assumes nothing.
use borrow.Author.Rules.{rules}
use mathlib.Core.Path.{◌∙◌}
use Prim.Native.Nat.{ℕ, ◌*◌}
use lib.Ieee.{binary64}
use Rattle.sample_kind.specs.declared.SampleKind.{SampleKind}
use Rattle.sample_kind.specs.Kinds.{width_of}
use Rattle.whole_samples.specs.Whole.{whole_of}
use Rattle.wav_samples.proofs.Values.{pcm-frames}
use Rattle.wav_samples.proofs.frames.frames.Goals as goal

pub returns-in-Pcm16 : goal.returns-in-Pcm16
returns-in-Pcm16 c =
    c.pcm.ensures (λ (kind : SampleKind) (n : ℕ). whole_of binary64 (width_of kind * 8) n) (λ n x l p. p)
    (λ n x l p. p)
    ∙ pcm-frames binary64 c.args.kind _ _ _ _ (search rules)
