-- `quality_codes::plainly::in_range` meets its contract, by its tests one after the other; only a NaN differs from
-- itself. Assumes nothing.
use mathlib.Core.Path.{sym, ◌∙◌}
use mathlib.Core.Bool.{false≢true}
use lib.Ieee.{of_bits}
use Rattle.bank_choice.proofs.NoNan.{no_nan}
use Rattle.quality_codes.proofs.plainly.in_range.Goals as goal

pub returns-then-is_finite_f32 : goal.returns-then-is_finite_f32
unfolding of_bits
returns-then-is_finite_f32 c =
    λ h. (
      c.if-accepted-lt-LIMIT.true,
      c.if-delay.true,
      c.if-delay-2.true,
      sym c.is_finite_f32.ensures ∙ c.if-is_finite_f32.true,
      sym (no_nan _) ∙ h,
    )

pub returns-else-is_finite_f32 : goal.returns-else-is_finite_f32
returns-else-is_finite_f32 = (λ c h. absurd (false≢true h))

pub returns-else-delay-2 : goal.returns-else-delay-2
returns-else-delay-2 = (λ c h. absurd (false≢true h))

pub returns-else-delay : goal.returns-else-delay
returns-else-delay = (λ c h. absurd (false≢true h))

pub returns-else-accepted-lt-LIMIT : goal.returns-else-accepted-lt-LIMIT
returns-else-accepted-lt-LIMIT = (λ c h. absurd (false≢true h))
