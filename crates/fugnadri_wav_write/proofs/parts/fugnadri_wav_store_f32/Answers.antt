-- `fugnadri_wav_write::parts::fugnadri_wav_store_f32` meets its contract, by its two cases. Assumes nothing.
use borrow.Author.Rules.{rules}
use mathlib.Core.Path.{◌≡◌, sym, ◌∙◌}
use Rattle.fugnadri_wav_write.proofs.parts.fugnadri_wav_store_f32.Goals as goal

pub returns-then-known : goal.returns-then-known
returns-then-known c =
    rw (
      sym c.known.ensures ∙ c.if-known.true,
      c.store_f32.ensures.value,
      c.store_f32.ensures.out_after,
      c.of_code.ensures,
    )

pub returns : goal.returns
returns c = rw (sym c.known.ensures ∙ c.if-known.false)
