-- `outcomes::misfit_at` meets its contract, by whether there are two channels. Assumes nothing.
use borrow.Author.Tests.{eq-eqb, ne_eqb}
use Rattle.outcomes.specs.Outcomes.{misfit_at}
use Rattle.outcomes.proofs.misfit_at.Goals as goal

pub returns-then-channels-eq2 : goal.returns-then-channels-eq2
unfolding misfit_at
returns-then-channels-eq2 c =
    rw (eq-eqb c.args.channels 2 c.if-channels-eq2.true) cc

pub returns : goal.returns
unfolding misfit_at
returns c =
    rw (ne_eqb c.args.channels 2 c.if-channels-eq2.false) cc
