-- `long_header::put` meets its contract, by whether the file fits RIFF. Assumes nothing.
use mathlib.Core.Path.{sym, ◌∙◌}
use Rattle.long_header.proofs.Accepted.{riff-is, long-room}
use Rattle.long_header.proofs.put.Goals as goal

pub returns-then-fits_riff : goal.returns-then-fits_riff
returns-then-fits_riff c =
    let a = c.args in
    c.write_header.ensures.out_after
    ∙ riff-is a.form a.kind a.channels a.rate a.count a.out.now c.requires
    (sym c.fits_riff.ensures ∙ c.if-fits_riff.true)

pub put_long-requires : goal.put_long-requires
put_long-requires c =
    let a = c.args in
    long-room a.form a.kind a.channels a.rate a.count a.out.now c.requires
    (sym c.fits_riff.ensures ∙ c.if-fits_riff.false)

pub returns : goal.returns
returns c =
    c.put_long.ensures ∙ rw (sym c.fits_riff.ensures ∙ c.if-fits_riff.false)
