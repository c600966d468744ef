-- `quality_codes::codes::rule` meets its contract, by its two cases. Assumes nothing.
use mathlib.Core.Path.{◌≡◌, refl}
use Prim.Native.Nat.{ℕ, zero, suc}
use Rattle.returning_fade.specs.declared.Rule.TheVariants.{Returning}
use Rattle.quality_codes.specs.Codes.{rule_of}
use Rattle.quality_codes.proofs.codes.rule.Goals as goal

pub returns-then-code-eq0 : goal.returns-then-code-eq0
returns-then-code-eq0 c = rw c.if-code-eq0.true

other : (k : ℕ) → (k ≡ 0 → ⊥) → Returning ≡ rule_of k
other zero h = absurd (h refl)
other (suc k) h = refl

pub returns-else-code-eq0 : goal.returns-else-code-eq0
returns-else-code-eq0 c = other c.args.code c.if-code-eq0.false
