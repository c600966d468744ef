-- `wave_output::can_be_written` meets its contract, by whether the file is refused. Assumes nothing.
use borrow.Author.Tests.{eq-eqb, ne_eqb}
use mathlib.Core.Path.{sym, ◌∙◌}
use Rattle.wave_output.proofs.can_be_written.Goals as goal

pub returns-then-refused-eq0 : goal.returns-then-refused-eq0
returns-then-refused-eq0 c = sym (eq-eqb _ 0 (sym c.refusal_for-refused.ensures ∙ c.if-refused-eq0.true))

pub returns : goal.returns
returns c =
    sym (ne_eqb _ 0 (λ z. c.if-refused-eq0.false (c.refusal_for-refused.ensures ∙ z)))
