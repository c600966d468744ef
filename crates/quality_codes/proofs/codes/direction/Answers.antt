-- `quality_codes::codes::direction` meets its contract, by its two cases. Assumes nothing.
use mathlib.Core.Path.{◌≡◌, refl}
use Prim.Native.Nat.{ℕ, zero, suc}
use Rattle.returning_fade.specs.declared.Direction.TheVariants.{Back}
use Rattle.quality_codes.specs.Codes.{direction_of}
use Rattle.quality_codes.proofs.codes.direction.Goals as goal

pub returns-then-code-eq0 : goal.returns-then-code-eq0
returns-then-code-eq0 c = rw c.if-code-eq0.true

other : (k : ℕ) → (k ≡ 0 → ⊥) → Back ≡ direction_of k
other zero h = absurd (h refl)
other (suc k) h = refl

pub returns-else-code-eq0 : goal.returns-else-code-eq0
returns-else-code-eq0 c = other c.args.code c.if-code-eq0.false
