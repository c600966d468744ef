-- `long_header::header_length_for` meets its contract, by its two cases. Assumes nothing.
use mathlib.Core.Path.{sym, ◌∙◌}
use native.Mathlib.Omega.{arith}
use Rattle.wav_header.proofs.Sizes.{short-header}
use Rattle.long_header.proofs.header_length_for.Goals as goal

pub returns-then-fits_riff : goal.returns-then-fits_riff
returns-then-fits_riff c =
    rw (sym c.fits_riff.ensures ∙ c.if-fits_riff.true) c.header_length.ensures

pub overflow_add-result : goal.overflow_add-result
overflow_add-result c = omega (arith, c.header_length-2.ensures, short-header c.args.kind)

pub returns : goal.returns
returns c =
    rw (sym c.fits_riff.ensures ∙ c.if-fits_riff.false, c.header_length-2.ensures)
