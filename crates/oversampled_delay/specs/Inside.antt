-- W11d. What an accepted call knows of its inner reader, so that its phases need not make the inner reader's tests. It
-- is no part of what a reader promises, which stands in Phases.antt and Reader.antt. Definitions only.
use Rattle.std.specs.Prelude.{◌≡◌, ℕ, ◌*◌, ◌≤◌, true, cond, T, ◌⊎◌, Float}
use Rattle.std.specs.Float.Ieee.{le}
use Rattle.std.specs.Float.Ieee.Scale.{finite}
use Rattle.constants.specs.Numbers.{zero-f}
use Rattle.ring.specs.Length.{settings_ok, length_for}
use Rattle.variable_delay.specs.Reader.{verdict}
use Rattle.variable_delay.specs.declared.VariableDelay.{VariableDelay}
use Rattle.oversampled_refusals.specs.Outer.{outer_limit-f}
use Rattle.oversampled_delay.specs.declared.OversampledVariableDelay.{OversampledVariableDelay}

-- Nothing but 4 can be due: over a ring of length len and at the delay y a sample is refused exactly if it is not
-- finite.
pub record OnlyFour (d : VariableDelay) (len : ℕ) (y : Float) : Type 0 where
  pub due : (x : Float) → verdict true true d len x y ≡ cond (finite x) 0 4

-- What the tests of the call leave for its phases: len is the length of the inner ring.
pub record Tested (d : OversampledVariableDelay) (len : ℕ) (from delay : Float) : Type 0 where
  pub either : (d.factor ≡ 2) ⊎ (d.factor ≡ 4)
  pub settings : settings_ok (d.factor * d.maximum) d.margin ≡ true
  pub long : len ≡ length_for (d.factor * d.maximum) d.margin
  pub counted : d.inner ≤ d.factor * d.accepted
  pub from_low : T (le zero-f from)
  pub from-high : T (le from outer_limit-f)
  pub delay-low : T (le zero-f delay)
  pub delay-high : T (le delay outer_limit-f)
