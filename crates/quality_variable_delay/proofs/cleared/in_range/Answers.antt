-- `quality_variable_delay::cleared::in_range` meets its contract, by its tests one after the other. Assumes nothing.
use Rattle.std.proofs.Common.{sym, ◌∙◌}
use lib.Ieee.{of_bits}
use Rattle.variable_delay_f32.proofs.CommonCall.{led-away}
use Rattle.quality_variable_delay.proofs.cleared.in_range.Goals as goal

pub returns-then-is_finite_f32 : goal.returns-then-is_finite_f32
unfolding of_bits
returns-then-is_finite_f32 c =
    λ h. (
      c.if-delay.true,
      c.if-delay-2.true,
      sym c.is_finite_f32.ensures ∙ c.if-is_finite_f32.true,
      sym c.is_number.ensures ∙ h,
    )

pub returns-else-is_finite_f32 : goal.returns-else-is_finite_f32
returns-else-is_finite_f32 c = led-away

pub returns-else-delay-2 : goal.returns-else-delay-2
returns-else-delay-2 c = led-away

pub returns-else-delay : goal.returns-else-delay
returns-else-delay c = led-away
