-- `lagrange::sample` meets its contract, by the test of the ranges. Assumes nothing.
use mathlib.Core.Path.{sym, ◌∙◌, ap}
use mathlib.Core.Bool.{Bool, cond}
use Rattle.answer.specs.Answers.{answer_of}
use Rattle.lagrange.specs.Kernel.{read_of}
use Rattle.lagrange.proofs.sample.Goals as goal

pub returns-then-in_range : goal.returns-then-in_range
returns-then-in_range c =
    let a = c.args in
    c.answered.ensures
    ∙ ap (answer_of 0) c.read.ensures
    ∙ ap (λ (b : Bool). answer_of (cond b 0 1) (read_of a.taps a.source.now a.count a.position))
    (sym c.if-in_range.true ∙ c.in_range.ensures)

pub returns-else-in_range : goal.returns-else-in_range
returns-else-in_range c = rw (← c.in_range.ensures, c.if-in_range.false) c.answered-else-in_range.ensures
