-- `absent_report::samples::later` meets its contract, by whether there are such taps. Assumes nothing.
use Rattle.std.proofs.Common.{eq-eqb, ne_eqb}
use Rattle.absent_report.proofs.samples.later.Goals as goal

pub returns-then-taps-eq0 : goal.returns-then-taps-eq0
returns-then-taps-eq0 c = rw (eq-eqb c.args.taps 0 c.if-taps-eq0.true)

pub returns-else-taps-eq0 : goal.returns-else-taps-eq0
returns-else-taps-eq0 c = rw (ne_eqb c.args.taps 0 c.if-taps-eq0.false)
