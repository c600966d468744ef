-- `returning_fade::step` meets its contract: it is the ported rule's step from the target, place and request that
-- `handed` gives, by `by-steps`. Assumes nothing.
use Rattle.returning_fade.proofs.PortedSteps.{by-steps}
use Rattle.returning_fade.proofs.step.Goals as goal

pub returns : goal.returns
returns c =
    let a = c.args in
    rw (c.step.ensures, c.handed-to.ensures) (by-steps a.state a.asked)
