-- D1c. A refusal changes neither the state nor the ring and forgets the requested quality; an answer's number is the
-- verdict (C4). Assumes nothing.
use Rattle.std.proofs.Common.{◌≡◌, ℕ, zero, suc, List, refl}
use lib.Ieee.{Float}
use Rattle.answer.specs.Answers.{answer_f32_of, number_f32_of}
use Rattle.answer.proofs.Cases.{number-f32-is}
use Rattle.variable_delay.specs.Reader.{Reading}
use Rattle.quality_mode.specs.declared.QualityMode.{QualityMode}
use Rattle.quality_variable_delay.specs.Reader.{ring_after, processed_by}
use Rattle.quality_variable_delay.specs.Opening as opening
use Rattle.quality_variable_delay.specs.Opening.{opened_by}
use Rattle.quality_variable_delay.specs.declared.QualityVariableDelayF32.{QualityVariableDelayF32}
use Rattle.quality_variable_delay.specs.declared.ProcessedQ.{ProcessedQ}
use Rattle.quality_variable_delay.specs.declared.Opened.TheVariants.{Refused}

-- Each law is stated at the number w that the code holds for the verdict v.
pub not-processed : (read : QualityMode → Reading) (w : ℕ) {v : ℕ} → w ≡ v → (w ≡ 0 → ⊥)
    → (d : QualityVariableDelayF32) (xs : List Float) (x y z : Float) (q : QualityMode)
    → ◌≡◌ {A = ProcessedQ} (record { state = d; answer = answer_f32_of w z }) (processed_by read v d xs x y q)
not-processed read zero e h d xs x y z q = absurd (h refl)
not-processed read (suc k) e h d xs x y z q = rw (← e)

pub same-ring : (w : ℕ) {v : ℕ} → w ≡ v → (w ≡ 0 → ⊥) → (d : QualityVariableDelayF32) (xs : List Float) (x : Float)
    → xs ≡ ring_after v d xs x
same-ring zero e h d xs x = absurd (h refl)
same-ring (suc k) e h d xs x = rw (← e)

pub not_opened : (w : ℕ) {v : ℕ} → w ≡ v → (w ≡ 0 → ⊥) → (d : QualityVariableDelayF32) → Refused w ≡ opened_by v d
not_opened zero e h d = absurd (h refl)
not_opened (suc k) e h d = rw (← e)

pub number-processed : (read : QualityMode → Reading) (v : ℕ) (d : QualityVariableDelayF32) (xs : List Float)
    (x y : Float) (q : QualityMode)
    → number_f32_of (processed_by read v d xs x y q).answer ≡ v
number-processed read v d xs x y q = number-f32-is v _

pub number-opened : (v : ℕ) (d : QualityVariableDelayF32) → opening.number_of (opened_by v d) ≡ v
number-opened zero d = refl
number-opened (suc k) d = refl
