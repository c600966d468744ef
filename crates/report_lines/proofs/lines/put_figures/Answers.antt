-- `report_lines::lines::put_figures` meets its contract, by whether something was compared. Assumes nothing.
use mathlib.Core.List.{◌++◌}
use borrow.Author.Tests.{eq-eqb, ne_eqb}
use Rattle.text.specs.Text.{ascii}
use Rattle.text.proofs.Texts.{then}
use Rattle.level_text.specs.LevelText.{level_text}
use Rattle.report_lines.specs.Lines.{largest_text, sum_text, figures_text}
use Rattle.report_lines.proofs.lines.put_figures.Goals as goal

pub returns-then-report-eq0 : goal.returns-then-report-eq0
unfolding ascii figures_text
returns-then-report-eq0 c =
    let s = c.args in
    rw (eq-eqb s.report.number 0 c.if-report-eq0.true) c.put.ensures

pub returns : goal.returns
unfolding ascii figures_text
returns c =
    let s = c.args in
    let from-word2 = ascii ", level " ++ (level_text s.level) in
    let from-sum = sum_text s.report.high s.report.low ++ from-word2 in
    let from-word = ascii ", sum " ++ from-sum in
    rw (ne_eqb s.report.number 0 c.if-report-eq0.false)
    (then s.out.now (largest_text s.report.largest s.report.place) from-word s.at
    c.put_largest-first.ensures
    (then c.put_largest-first.new.out (ascii ", sum ") from-sum c.put_largest-first.result
    c.put-to.ensures
    (then c.put-to.new.out (sum_text s.report.high s.report.low) from-word2 c.put-to.result
    c.put_sum-second.ensures
    (then c.put_sum-second.new.out (ascii ", level ") (level_text s.level) c.put_sum-second.result
    c.put-last.ensures c.put_level.ensures))))
