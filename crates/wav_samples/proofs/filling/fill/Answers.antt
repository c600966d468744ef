-- `wav_samples::filling::fill` meets its contract by those of its calls. Assumes nothing.
use mathlib.Core.Path.{sym, ◌∙◌}
use mathlib.Core.Bool.{true}
use Rattle.wav_samples.proofs.Framing.{framed, kept, given}
use Rattle.wav_samples.proofs.filling.fill.Goals as goal

pub returns-then-refused-ne0 : goal.returns-then-refused-ne0
returns-then-refused-ne0 c = let e = c.refusal-refused.ensures in
    record { value = e; out_after = kept _ _ _ _ e c.if-refused-ne0.true }

pub frames-requires : goal.frames-requires
frames-requires c =
    let s = c.args in
    rw c.frame_width.ensures
    (framed true s.kind s.channels s.channel _ _ (sym c.refusal-refused.ensures ∙ c.if-refused-ne0.false))

pub returns : goal.returns
returns c =
    let e = c.refusal-refused.ensures in record {
      value = sym c.if-refused-ne0.false ∙ e;
      out_after = rw c.frame_width.ensures at c.frames.ensures
          ∙ given _ _ _ _ e c.if-refused-ne0.false;
    }
