-- `fugnadri_wav_write::files::fugnadri_wav_file_length` meets its contract, by its two cases. Assumes nothing.
use borrow.Author.Rules.{rules}
use mathlib.Core.Path.{◌≡◌, sym, ◌∙◌}
use Rattle.fugnadri_wav_write.proofs.files.fugnadri_wav_file_length.Goals as goal

pub returns-then-known : goal.returns-then-known
returns-then-known c =
    rw (
      sym c.known.ensures ∙ c.if-known.true,
      c.file_length_for.ensures,
      c.of_code.ensures,
    )

pub returns : goal.returns
returns c = rw (sym c.known.ensures ∙ c.if-known.false)
