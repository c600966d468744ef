-- `quality_codes::plainly::plain` meets its contract: if its tests pass nothing is refused, by quality_variable_delay's
-- law. Assumes nothing.
use borrow.Author.Tests.{le-leb}
use mathlib.Core.Bool.{false≢true}
use Rattle.quality_variable_delay.proofs.CommonCall.{none-due}
use Rattle.quality_codes.specs.Codes.{decoded, state_of}
use Rattle.quality_codes.proofs.DraftCalls.{placed}
use Rattle.quality_codes.proofs.plainly.plain.Goals as goal

pub returns-then-in_range : goal.returns-then-in_range
returns-then-in_range c =
    let a = c.args in
    λ h.
    let d = c.draft.ensures c.if-draft.true in
    let r = c.in_range.ensures c.if-in_range.true in
    let l = c.filled.ensures h in
    let s =
    state_of a.maximum a.margin a.accepted a.current a.target a.crossfade_position
    a.crossfade_samples a.rule a.direction in (
      d.0,
      d.1,
      d.2,
      d.3,
      d.4,
      none-due a.lent a.max_rate (decoded s) a.len a.input a.delay a.playback_rate r.0
          (le-leb _ _ d.5) (placed s d.0 d.1 d.3 d.6) r.1 r.2 r.3 r.4 l.0 l.1 l.2
          l.3,
    )

pub returns-else-in_range : goal.returns-else-in_range
returns-else-in_range = (λ c h. absurd (false≢true h))

pub returns-else-draft : goal.returns-else-draft
returns-else-draft = (λ c h. absurd (false≢true h))
