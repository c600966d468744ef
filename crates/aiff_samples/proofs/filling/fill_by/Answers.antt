-- `aiff_samples::filling::fill_by` meets its contract by those of its calls. Assumes nothing.
use mathlib.Core.Path.{sym, ◌∙◌}
use Rattle.wav_samples.specs.Samples.{is_pcm}
use Rattle.wav_samples.proofs.Framing.{asked_is, framed, kept, given}
use Rattle.aiff_samples.proofs.filling.fill_by.Goals as goal

pub returns-then-refused-ne0 : goal.returns-then-refused-ne0
returns-then-refused-ne0 g c = let e = c.whole_refusal-refused.ensures in
    record { value = e; out_after = λ means h16 h24. kept _ _ _ _ e c.if-refused-ne0.true }

pub pcm-requires-clause-framed : goal.pcm-requires-clause-framed
pcm-requires-clause-framed g c =
    let s = c.args in
    let z = sym c.whole_refusal-refused.ensures ∙ c.if-refused-ne0.false in
    rw c.frame_width.ensures (framed (is_pcm s.kind) s.kind s.channels s.channel _ _ z)

pub pcm-requires-clause-pcm : goal.pcm-requires-clause-pcm
pcm-requires-clause-pcm g c =
    let s = c.args in
    asked_is (is_pcm s.kind) s.kind s.channels s.channel _ _
    (sym c.whole_refusal-refused.ensures ∙ c.if-refused-ne0.false)

pub returns : goal.returns
returns g c =
    let e = c.whole_refusal-refused.ensures in record {
      value = sym c.if-refused-ne0.false ∙ e;
      out_after = λ means h16 h24.
          rw c.frame_width.ensures at (c.pcm.ensures means h16 h24)
          ∙ given _ _ _ _ e c.if-refused-ne0.false;
    }
