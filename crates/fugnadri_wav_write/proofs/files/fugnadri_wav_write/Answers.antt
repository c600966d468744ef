-- `fugnadri_wav_write::files::fugnadri_wav_write` meets its contract, by its two cases. Assumes nothing.
use borrow.Author.Rules.{rules}
use mathlib.Core.Path.{◌≡◌, sym, ◌∙◌}
use Rattle.fugnadri_wav_write.proofs.files.fugnadri_wav_write.Goals as goal

pub returns-then-known : goal.returns-then-known
returns-then-known c =
    rw (
      sym c.known.ensures ∙ c.if-known.true,
      c.number.ensures,
      c.size.ensures,
      c.write-answer.ensures.value,
      c.write-answer.ensures.out_after,
      c.of_code-k.ensures,
      c.rate_for-hertz.ensures,
      c.form_of-f.ensures,
    )

pub returns : goal.returns
returns c =
    rw (sym c.known.ensures ∙ c.if-known.false, c.refusal_unlisted.ensures, c.rate_for-hertz.ensures)
