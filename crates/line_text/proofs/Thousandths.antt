-- Frames as thousandths of a second, by whole seconds and the remainder: nothing is lost by dividing first. Assumes
-- nothing.
use mathlib.Core.Path.{◌≡◌, sym, ap, ◌∙◌}
use Prim.Native.Nat.{ℕ, ◌+◌, ◌*◌, ◌/◌, ◌%◌, ◌<◌}
use native.Mathlib.Nat.{div-add-mod', mod-lt, mul-add-div_right, div-lt_iff_lt-mul, mul_right_comm}
use native.Mathlib.Omega.{arith}
use lib.Arith.{digits_div, digits_mod}

module _ (frames rate : ℕ) (p : 0 < rate) where
  below : frames % rate * 1000 / rate < 1000
  below = (div-lt_iff_lt-mul p).1 (omega (arith, mod-lt frames p))

  parts : frames * 1000 ≡ frames / rate * 1000 * rate + frames % rate * 1000
  parts = rw (mul_right_comm (frames / rate) 1000 rate) (omega (arith, div-add-mod' frames rate))

  both : frames * 1000 / rate ≡ frames / rate * 1000 + frames % rate * 1000 / rate
  both = ap (λ (n : ℕ). n / rate) parts ∙ mul-add-div_right p (frames / rate * 1000) (frames % rate * 1000)

  pub whole-seconds : frames / rate ≡ frames * 1000 / rate / 1000
  whole-seconds = sym (ap (λ (t : ℕ). t / 1000) both ∙ digits_div (frames / rate) below)

  pub left_over : frames % rate * 1000 / rate ≡ frames * 1000 / rate % 1000
  left_over = sym (ap (λ (t : ℕ). t % 1000) both ∙ digits_mod (frames / rate) below)
