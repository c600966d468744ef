-- `sinc_read_f32::kernel::read` meets its contract, by the number of the refusal. Assumes nothing.
use mathlib.Core.Path.{sym, ◌∙◌}
use lib.ListN.{length}
use lib.Ieee.{of_bits}
use Rattle.sinc_read.proofs.AnswerByRefusal.{read_is, not-read}
use Rattle.sinc_read_f32.proofs.kernel.read.Goals as goal

pub returns-then-refusal-eq0 : goal.returns-then-refusal-eq0
returns-then-refusal-eq0 c =
    let a = c.args in
    c.at.ensures
    ∙ read_is _ a.taps a.phases (length a.table.now) a.position
    (sym c.refusal.ensures ∙ c.if-refusal-eq0.true)

pub returns-else-refusal-eq0 : goal.returns-else-refusal-eq0
unfolding of_bits
returns-else-refusal-eq0 c =
    let a = c.args in
    not-read _ a.taps a.phases (length a.table.now) a.position
    (λ z. c.if-refusal-eq0.false (c.refusal.ensures ∙ z))
