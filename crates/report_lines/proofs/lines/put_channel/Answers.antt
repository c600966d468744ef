-- `report_lines::lines::put_channel` meets its contract: texts that are put one after the other are one text. Assumes
-- nothing.
use mathlib.Core.List.{◌++◌}
use Rattle.text.specs.Text.{ascii, decimal}
use Rattle.text.proofs.Texts.{then}
use Rattle.report_lines.specs.Lines.{figures_text, channel_text}
use Rattle.report_lines.proofs.lines.put_channel.Goals as goal

pub returns : goal.returns
unfolding ascii channel_text
returns c =
    let s = c.args in
    let from-figures = figures_text s.report s.level ++ (ascii "\n") in
    let from-number = decimal s.report.number ++ from-figures in
    let from-word2 = ascii ": number " ++ from-number in
    let from-name = decimal s.channel ++ from-word2 in
    then s.out.now (ascii "channel ") from-name s.at c.put-first.ensures
    (then c.put-first.new.out (decimal s.channel) from-word2 c.put-first.result c.put_decimal-name.ensures
    (then c.put_decimal-name.new.out (ascii ": number ") from-number c.put_decimal-name.result
    c.put-second.ensures
    (then c.put-second.new.out (decimal s.report.number) from-figures c.put-second.result
    c.put_decimal-number.ensures
    (then c.put_decimal-number.new.out (figures_text s.report s.level) (ascii "\n")
    c.put_decimal-number.result c.put_figures-end.ensures c.put.ensures))))
