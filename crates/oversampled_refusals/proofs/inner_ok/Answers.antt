-- `oversampled_refusals::inner_ok` meets its contract, by the two factors. Assumes nothing.
use Rattle.oversampled_refusals.proofs.Factors.{the-other}
use Rattle.oversampled_refusals.proofs.inner_ok.Goals as goal

pub returns-then-factor-eq2 : goal.returns-then-factor-eq2
returns-then-factor-eq2 c h = rw c.if-factor-eq2.true

pub returns : goal.returns
returns c h = rw (the-other _ h c.if-factor-eq2.false)
