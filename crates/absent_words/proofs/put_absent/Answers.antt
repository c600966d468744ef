-- `absent_words::put_absent` meets its contract, by whether any sample read an absent tap. Assumes nothing.
use borrow.Author.Tests.{eq-eqb, ne_eqb}
use mathlib.Core.List.{◌++◌}
use Rattle.text.specs.Text.{ascii, decimal}
use Rattle.text.proofs.Texts.{then}
use Rattle.report_lines.specs.Files.{count_text}
use Rattle.absent_words.specs.Words.{kinds_text, absent_text}
use Rattle.absent_words.proofs.put_absent.Goals as goal

pub returns-then-report-eq0 : goal.returns-then-report-eq0
unfolding ascii absent_text
returns-then-report-eq0 c =
    let s = c.args in
    rw (eq-eqb s.report.samples 0 c.if-report-eq0.true) c.put.ensures

pub returns : goal.returns
unfolding ascii absent_text
returns c =
    let s = c.args in
    let r = s.report in
    let from-four = ascii ": " ++ kinds_text r in
    let from-three = decimal r.last ++ from-four in
    let from-two = ascii " read absent taps, last at frame " ++ from-three in
    rw (ne_eqb r.samples 0 c.if-report-eq0.false)
    (then s.out.now (count_text r.samples (ascii "sample")) from-two s.at c.put_count-one.ensures
    (then c.put_count-one.new.out (ascii " read absent taps, last at frame ") from-three c.put_count-one.result
    c.put-two.ensures
    (then c.put-two.new.out (decimal r.last) from-four c.put-two.result c.put_decimal-three.ensures
    (then c.put_decimal-three.new.out (ascii ": ") (kinds_text r) c.put_decimal-three.result
    c.put-four.ensures c.put_kinds.ensures))))
