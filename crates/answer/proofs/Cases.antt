-- An answer by its number: a number other than 0 is a refusal, and `number_of` gives back the number that was put in.
-- Assumes nothing.
use mathlib.Core.Path.{◌≡◌, refl}
use Prim.Native.Nat.{ℕ, zero, suc}
use lib.Ieee.{Float}
use Rattle.answer.specs.Answers.{answer_of, answer_f32_of, number_of, number_f32_of}
use Rattle.answer.specs.declared.Answer.TheVariants as f64
use Rattle.answer.specs.declared.AnswerF32.TheVariants as f32

pub refused : (k : ℕ) (v : Float) → (k ≡ 0 → ⊥) → f64.Refused k ≡ answer_of k v
refused zero v h = absurd (h refl)
refused (suc k) v h = refl

pub refused-f32 : (k : ℕ) (v : Float) → (k ≡ 0 → ⊥) → f32.Refused k ≡ answer_f32_of k v
refused-f32 zero v h = absurd (h refl)
refused-f32 (suc k) v h = refl

pub number_is : (k : ℕ) (v : Float) → number_of (answer_of k v) ≡ k
number_is zero v = refl
number_is (suc k) v = refl

pub number-f32-is : (k : ℕ) (v : Float) → number_f32_of (answer_f32_of k v) ≡ k
number-f32-is zero v = refl
number-f32-is (suc k) v = refl
