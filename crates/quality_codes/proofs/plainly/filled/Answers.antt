-- `quality_codes::plainly::filled` meets its contract: a needed length other than 0 means that the settings are in
-- range. Assumes nothing.
use mathlib.Core.Bool.{false≢true}
use borrow.Author.Tests.{eq-eqb}
use Rattle.variable_delay_f32.proofs.CommonCall as passing
use Rattle.quality_codes.proofs.plainly.filled.Goals as goal

pub returns-then-len-length_for : goal.returns-then-len-length_for
returns-then-len-length_for c =
    λ h.
    let r =
    passing.filled _ _ _ c.length_for.result c.length_for.ensures c.if-len-ne0.true
    (eq-eqb _ _ c.if-len-length_for.true) in
    let b = c.fits.ensures h in
    (r.0, r.1, b.0, b.1)

pub returns-else-len-length_for : goal.returns-else-len-length_for
returns-else-len-length_for = (λ c h. absurd (false≢true h))

pub returns-else-len-ne0 : goal.returns-else-len-ne0
returns-else-len-ne0 = (λ c h. absurd (false≢true h))
