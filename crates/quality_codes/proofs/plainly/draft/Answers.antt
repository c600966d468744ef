-- `quality_codes::plainly::draft` meets its contract, by its tests one after the other. Assumes nothing.
use mathlib.Core.Bool.{false≢true}
use borrow.Author.Tests.{leb-true}
use Rattle.quality_codes.proofs.plainly.draft.Goals as goal

pub returns-then-crossfade_samples-le16777216 : goal.returns-then-crossfade_samples-le16777216
returns-then-crossfade_samples-le16777216 c =
    λ h. (
      c.if-current-eq0.true,
      c.if-target-eq0.true,
      c.if-quality-eq0.true,
      c.if-direction-eq0.true,
      c.if-rule-le1.true,
      c.if-crossfade_samples-le16777216.true,
      leb-true _ _ h,
    )

pub returns-else-crossfade_samples-le16777216 : goal.returns-else-crossfade_samples-le16777216
returns-else-crossfade_samples-le16777216 = (λ c h. absurd (false≢true h))

pub returns-else-rule-le1 : goal.returns-else-rule-le1
returns-else-rule-le1 = (λ c h. absurd (false≢true h))

pub returns-else-direction-eq0 : goal.returns-else-direction-eq0
returns-else-direction-eq0 = (λ c h. absurd (false≢true h))

pub returns-else-quality-eq0 : goal.returns-else-quality-eq0
returns-else-quality-eq0 = (λ c h. absurd (false≢true h))

pub returns-else-target-eq0 : goal.returns-else-target-eq0
returns-else-target-eq0 = (λ c h. absurd (false≢true h))

pub returns-else-current-eq0 : goal.returns-else-current-eq0
returns-else-current-eq0 = (λ c h. absurd (false≢true h))
