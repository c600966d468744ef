-- `wav_samples::filling::fill_whole` meets its contract by those of its calls. Assumes nothing.
use mathlib.Core.Path.{◌≡◌, ap, ◌∙◌}
use mathlib.Core.Bool.{Bool}
use Prim.Native.Nat.{ℕ, ◌*◌}
use lib.ListN.{length}
use Rattle.sample_kind.specs.declared.SampleKind.{SampleKind}
use Rattle.sample_kind.specs.Kinds.{width_of}
use Rattle.whole_samples.specs.Whole.{units_of}
use Rattle.wav_samples.specs.Filling.{refused_by, whole_verdict}
use Rattle.wav_samples.proofs.Framing.{given}
use Rattle.wav_samples.proofs.filling.fill_whole.Goals as goal

pub returns-clause-out_after : goal.returns-clause-out_after
returns-clause-out_after c =
    let s = c.args in
    let n = length s.part.now in
    let m = length s.out.now in
    let e : c.refusal-refused.result ≡ whole_verdict s.kind s.channels s.channel n m =
    c.refusal-refused.ensures
    ∙ ap (λ (asked : Bool). refused_by asked s.kind s.channels s.channel n m) c.is_pcm.ensures in
    rw c.frame_width.ensures at
    (c.pcm.ensures (λ (kind : SampleKind) (n : ℕ). units_of (width_of kind * 8) n) (λ n x l p. p)
    (λ n x l p. p))
    ∙ given _ (whole_verdict s.kind s.channels s.channel n m) _ _ e c.if-refused-ne0.false
