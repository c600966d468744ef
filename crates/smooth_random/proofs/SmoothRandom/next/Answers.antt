-- `smooth_random::SmoothRandom::next` meets its contract: each branch returns what the definition gives for that
-- refusal and that test of the loop. Assumes nothing.
use mathlib.Core.Path.{◌≡◌, refl}
use Prim.Native.Nat.{ℕ, zero, suc}
use lib.Ieee.{Float}
use Rattle.xorshift.specs.Draws.{zero as zer}
use Rattle.smooth_random.specs.Drift.{settled, answer}
use Rattle.smooth_random.specs.declared.SmoothRandom.{SmoothRandom}
use Rattle.smooth_random.proofs.SmoothRandom.next.Goals as goal

refused : (k : ℕ) (r : SmoothRandom) (rate-hz sample-rate : Float) → (k ≡ 0 → ⊥)
    → record { random = r; value = zer; refusal = k } ≡ answer k r rate-hz sample-rate
refused zero r rate-hz sample-rate h = absurd (h refl)
refused (suc k) r rate-hz sample-rate h = refl

pub returns-then-refusal-ne0 : goal.returns-then-refusal-ne0
returns-then-refusal-ne0 c = rw (← c.refusal-refusal.ensures) (refused _ _ _ _ c.if-refusal-ne0.true)

pub returns-then-moved : goal.returns-then-moved
unfolding settled
returns-then-moved c =
    rw (
      ← c.refusal-refusal.ensures,
      c.if-refusal-ne0.false,
      c.value-value.ensures,
      c.turn-random.ensures,
      ← c.advance-moved.ensures,
      c.if-moved.true,
    )

pub returns-else-moved : goal.returns-else-moved
unfolding settled
returns-else-moved c =
    rw (
      ← c.refusal-refusal.ensures,
      c.if-refusal-ne0.false,
      c.value-value.ensures,
      ← c.advance-moved.ensures,
      c.if-moved.false,
    )
