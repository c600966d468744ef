-- A refusal changes neither the state nor the ring (D1c), and the number of an answer is that of the refusal (C4).
-- Assumes nothing.
use mathlib.Core.Path.{◌≡◌, refl}
use mathlib.Core.Bool.{false}
use mathlib.Core.List.{List}
use Prim.Native.Nat.{ℕ, zero, suc}
use lib.IntN.{pos}
use lib.Ieee.{Float, fin}
use Rattle.answer.specs.Answers.{number_of}
use Rattle.answer.proofs.Cases.{number_is}
use Rattle.variable_delay.specs.Reader.{Reading, ring_after, state_after, processed_by}
use Rattle.variable_delay.specs.Inner.{accepted_of}
use Rattle.variable_delay.specs.Opening as opening
use Rattle.variable_delay.specs.Opening.{opened_by, cleared_by}
use Rattle.variable_delay.specs.declared.VariableDelay.{VariableDelay}
use Rattle.variable_delay.specs.declared.Accepted.{Accepted}
use Rattle.variable_delay.specs.declared.Opened.TheVariants.{Refused}

-- Each law is at a number w that the code holds for the refusal v.
pub same-state : (w : ℕ) {v : ℕ} → w ≡ v → (w ≡ 0 → ⊥) → (d : VariableDelay) → d ≡ state_after v d
same-state zero e h d = absurd (h refl)
same-state (suc k) e h d = rw (← e)

pub same-ring : (w : ℕ) {v : ℕ} → w ≡ v → (w ≡ 0 → ⊥) → (d : VariableDelay) (xs : List Float) (x : Float)
    → xs ≡ ring_after v d xs x
same-ring zero e h d xs x = absurd (h refl)
same-ring (suc k) e h d xs x = rw (← e)

pub not-accepted : (w : ℕ) {v : ℕ} → w ≡ v → (w ≡ 0 → ⊥) → (d : VariableDelay) (y : Float)
    → ◌≡◌ {A = Accepted} (record { refusal = w; count = 0; position = fin false 0 (pos 0) }) (accepted_of v d y)
not-accepted zero e h d y = absurd (h refl)
not-accepted (suc k) e h d y = rw (← e)

pub not_opened : (w : ℕ) {v : ℕ} → w ≡ v → (w ≡ 0 → ⊥) → (d : VariableDelay) → Refused w ≡ opened_by v d
not_opened zero e h d = absurd (h refl)
not_opened (suc k) e h d = rw (← e)

pub not-cleared : (w : ℕ) {v : ℕ} → w ≡ v → (w ≡ 0 → ⊥) → (xs : List Float) → xs ≡ cleared_by v xs
not-cleared zero e h xs = absurd (h refl)
not-cleared (suc k) e h xs = rw (← e)

pub number-processed : (read : Reading) (v : ℕ) (d : VariableDelay) (xs : List Float) (x y : Float)
    → number_of (processed_by read v d xs x y).answer ≡ v
number-processed read v d xs x y = number_is v _

pub number-opened : (v : ℕ) (d : VariableDelay) → opening.number_of (opened_by v d) ≡ v
number-opened zero d = refl
number-opened (suc k) d = refl
