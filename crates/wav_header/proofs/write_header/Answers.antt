-- `wav_header::write_header` meets its contract: a refused call leaves the block, and an accepted one has room for the
-- header and few enough samples. Assumes nothing.
use mathlib.Core.Path.{sym, ◌∙◌}
use Rattle.wav_header.proofs.Taken.{accepted, kept, given}
use Rattle.wav_header.proofs.write_header.Goals as goal

pub returns-then-refused-ne0 : goal.returns-then-refused-ne0
returns-then-refused-ne0 c = let e = c.header_refusal-refused.ensures in
    record { value = e; out_after = kept _ _ _ _ e c.if-refused-ne0.true }

pub put_header-requires : goal.put_header-requires
put_header-requires c =
    let s = c.args in
    accepted s.kind s.channels s.rate s.count _ (sym c.header_refusal-refused.ensures ∙ c.if-refused-ne0.false)

pub returns : goal.returns
returns c =
    let e = c.header_refusal-refused.ensures in
    record {
      value = sym c.if-refused-ne0.false ∙ e;
      out_after =
          c.put_header.ensures ∙ given _ _ _ _ e c.if-refused-ne0.false;
    }
