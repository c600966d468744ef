-- C4. What an answer says in 01's terms: a number (0 for a sample) and a value. Definitions only.
use Rattle.std.specs.Prelude.{ℕ, zero, suc, Float}
pub use Rattle.constants.specs.Numbers.{zero-f}
use Rattle.answer.specs.declared.Answer.{Answer}
use Rattle.answer.specs.declared.AnswerF32.{AnswerF32}
use Rattle.answer.specs.declared.Answer.TheVariants as f64
use Rattle.answer.specs.declared.AnswerF32.TheVariants as f32

-- The answer for a refusal number and a sample: the sample, if the number is 0.
abbrev pub answer_of : ℕ → Float → Answer
answer_of zero v = f64.Sample v
answer_of (suc k) v = f64.Refused (suc k)

abbrev pub answer_f32_of : ℕ → Float → AnswerF32
answer_f32_of zero v = f32.Sample v
answer_f32_of (suc k) v = f32.Refused (suc k)

-- C4. 01's number for each case, and the value. A refusal has no value; 0.0 stands for it, as in the oracle.
abbrev pub number_of : Answer → ℕ
number_of (f64.Sample v) = 0
number_of (f64.Refused k) = k

abbrev pub value_of : Answer → Float
value_of (f64.Sample v) = v
value_of (f64.Refused k) = zero-f

abbrev pub number_f32_of : AnswerF32 → ℕ
number_f32_of (f32.Sample v) = 0
number_f32_of (f32.Refused k) = k

abbrev pub value_f32_of : AnswerF32 → Float
value_f32_of (f32.Sample v) = v
value_f32_of (f32.Refused k) = zero-f
