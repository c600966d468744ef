-- A call at f64: its record and its answer, for the laws of AnyWidth. Each kernel's f64 reader cites this. Assumes
-- nothing.
use mathlib.Core.Path.{◌≡◌, refl}
use Prim.Native.Nat.{ℕ, suc}
use lib.Ieee.{Float}
use Rattle.answer.specs.Answers.{answer_of}
use Rattle.answer.specs.declared.Answer.{Answer}
use Rattle.variable_delay.specs.declared.VariableDelay.{VariableDelay}
use Rattle.variable_delay.specs.declared.Processed.{Processed}

abbrev pub made : VariableDelay → Answer → Processed
made d r = record { state = d; answer = r }

pub silent : (k : ℕ) (z w : Float) → answer_of (suc k) z ≡ answer_of (suc k) w
silent k z w = refl
