-- `report_lines::looked::put_wrapped` meets its contract, by whether it is wrapped. Assumes nothing.
use Rattle.text.specs.Text.{ascii}
use Rattle.report_lines.specs.Looked.{wrapped_text}
use Rattle.report_lines.proofs.looked.put_wrapped.Goals as goal

pub returns-then-wrapped : goal.returns-then-wrapped
unfolding ascii wrapped_text
returns-then-wrapped c =
    let s = c.args in
    rw c.if-wrapped.true c.put.ensures

pub returns : goal.returns
unfolding ascii wrapped_text
returns c =
    let s = c.args in
    rw c.if-wrapped.false c.put-2.ensures
