-- `oversampled_delay::refusals::inner_length` meets its contract, by the factor. Assumes nothing.
use Rattle.oversampled_delay.proofs.InnerLength.{too_long, no-factor}
use Rattle.oversampled_delay.proofs.refusals.inner_length.Goals as goal

pub returns-then-maximum-gt16777216 : goal.returns-then-maximum-gt16777216
returns-then-maximum-gt16777216 c = let a = c.args in too_long a.factor a.maximum a.margin c.if-maximum-gt16777216.true

pub returns-then-factor-eq2 : goal.returns-then-factor-eq2
returns-then-factor-eq2 c = rw c.if-factor-eq2.true c.length_for.ensures

pub returns-then-factor-eq4 : goal.returns-then-factor-eq4
returns-then-factor-eq4 c = rw c.if-factor-eq4.true c.length_for-then-factor-eq4.ensures

pub returns : goal.returns
returns c =
    let a = c.args in
    no-factor a.factor a.maximum a.margin c.if-factor-eq2.false c.if-factor-eq4.false
