-- `bank_choice::lower` meets its contract, by the test of the set. Assumes nothing.
use Rattle.std.proofs.Common.{eq-eqb, ne_eqb}
use lib.Ieee.{of_bits}
use Rattle.bank_choice.proofs.lower.Goals as goal

pub returns-then-k-eq0 : goal.returns-then-k-eq0
unfolding of_bits
returns-then-k-eq0 c = rw (eq-eqb c.args.k 0 c.if-k-eq0.true)

pub returns-else-k-eq0 : goal.returns-else-k-eq0
returns-else-k-eq0 c = rw (ne_eqb c.args.k 0 c.if-k-eq0.false) c.rate.ensures
