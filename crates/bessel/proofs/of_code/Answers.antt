-- `bessel::of_code` meets its contract, by its two cases. Assumes nothing.
use mathlib.Core.Path.{◌≡◌, refl}
use Prim.Native.Nat.{ℕ, zero, suc}
use Rattle.bessel.specs.declared.Mode.TheVariants.{Full}
use Rattle.bessel.specs.Modes.{mode_of}
use Rattle.bessel.proofs.of_code.Goals as goal

pub returns-then-code-eq0 : goal.returns-then-code-eq0
returns-then-code-eq0 c = rw c.if-code-eq0.true

other : (k : ℕ) → (k ≡ 0 → ⊥) → Full ≡ mode_of k
other zero h = absurd (h refl)
other (suc k) h = refl

pub returns-else-code-eq0 : goal.returns-else-code-eq0
returns-else-code-eq0 c = other c.args.code c.if-code-eq0.false
