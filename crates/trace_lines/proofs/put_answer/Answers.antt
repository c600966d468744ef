-- `trace_lines::put_answer` meets its contract: each arm of the match gives the text of its variant; `refused ` and the
-- number are put as one text. Assumes nothing.
use mathlib.Core.Path.{◌∙◌, ap, sym}
use Rattle.word_bytes.specs.Hex.{hex_digits}
use Rattle.text.specs.Text.{ascii, decimal, put_at, place_after}
use Rattle.text.proofs.Texts.{then}
use Rattle.trace_lines.specs.Lines.{answer_text}
use Rattle.trace_lines.proofs.put_answer.Goals as goal

pub returns-in-Sample : goal.returns-in-Sample
returns-in-Sample c =
    let e = c.put.ensures in
    let t =
    c.hex16-digits.ensures
    ∙ ap (hex_digits 16) c.bits_of.ensures
    ∙ ap answer_text (sym c.in-Sample.is) in
    record { value = e.value ∙ ap (place_after _ _) t; out_after = e.out_after ∙ ap (put_at _ _) t }

pub returns-in-Refused : goal.returns-in-Refused
unfolding ascii
returns-in-Refused c =
    let e =
    then c.args.out.now (ascii "refused ") (decimal c.in-Refused.no)
    c.args.at c.put-to.ensures c.put_decimal.ensures in
    let t = ap answer_text (sym c.in-Refused.is) in
    record { value = e.value ∙ ap (place_after _ _) t; out_after = e.out_after ∙ ap (put_at _ _) t }
