-- The value of an answer is what `elementary` returns as a plain number. Assumes nothing.
use Rattle.std.specs.Prelude.{Float, Result, Ok, Err}
use Rattle.refusal.specs.declared.Refusal.{Refusal}
use mathlib.Core.Path.{◌≡◌, refl}
use Rattle.elementary.specs.Answers.{or_zero}
use Rattle.oscillator_arithmetic.specs.Arithmetic.{value_of}

pub value-is : (a : Result Float Refusal) → or_zero a ≡ value_of a
value-is (Ok v) = refl
value-is (Err r) = refl
