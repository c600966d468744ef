-- `filter_settings::factor_ok` meets its contract, test by test. Assumes nothing.
use borrow.Author.Tests.{eq-eqb, ne_eqb}
use Rattle.filter_settings.proofs.factor_ok.Goals as goal

pub returns-then-factor-eq2 : goal.returns-then-factor-eq2
returns-then-factor-eq2 c = rw (eq-eqb _ _ c.if-factor-eq2.true)

pub returns-else-factor-eq2 : goal.returns-else-factor-eq2
returns-else-factor-eq2 c = rw (ne_eqb _ _ c.if-factor-eq2.false)
