-- A call at f32: its record and its answer, for the laws of variable_delay's AnyWidth. Each kernel's f32 reader cites
-- this. The number of an answer is that of the refusal (C4). Assumes nothing.
use mathlib.Core.Path.{◌≡◌, refl}
use mathlib.Core.List.{List}
use Prim.Native.Nat.{ℕ, suc}
use lib.Ieee.{Float}
use Rattle.answer.specs.Answers.{answer_f32_of, number_f32_of}
use Rattle.answer.specs.declared.AnswerF32.{AnswerF32}
use Rattle.answer.proofs.Cases.{number-f32-is}
use Rattle.variable_delay.specs.Reader.{Reading}
use Rattle.variable_delay.specs.declared.VariableDelay.{VariableDelay}
use Rattle.variable_delay_f32.specs.Call.{processed_f32_by}
use Rattle.variable_delay_f32.specs.declared.ProcessedF32.{ProcessedF32}

abbrev pub made : VariableDelay → AnswerF32 → ProcessedF32
made d r = record { state = d; answer = r }

pub silent : (k : ℕ) (z w : Float) → answer_f32_of (suc k) z ≡ answer_f32_of (suc k) w
silent k z w = refl

pub number-processed : (read : Reading) (v : ℕ) (d : VariableDelay) (xs : List Float) (x y : Float)
    → number_f32_of (processed_f32_by read v d xs x y).answer ≡ v
number-processed read v d xs x y = number-f32-is v _
