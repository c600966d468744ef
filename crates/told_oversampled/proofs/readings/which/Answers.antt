-- `told_oversampled::readings::which` meets its contract, by its four cases. Assumes nothing.
use Rattle.std.proofs.Common.{◌≡◌, ℕ, zero, suc, refl, arith}
use Rattle.told_oversampled.specs.Reckoned.{which_of}
use Rattle.told_oversampled.specs.declared.readings.Accepted.{Accepted}
use Rattle.told_oversampled.proofs.readings.which.Goals as goal

above : (a : Accepted) (k : ℕ) → (k ≡ 0 → ⊥) → (k ≡ 1 → ⊥) → (k ≡ 2 → ⊥) → a.fourth ≡ which_of a k
above a zero x y z = absurd (x refl)
above a (suc zero) x y z = absurd (y refl)
above a (suc (suc zero)) x y z = absurd (z refl)
above a (suc (suc (suc k))) x y z = refl

pub returns-in_default : goal.returns-in_default
returns-in_default c = above c.args.accepted c.args.k (λ e. omega arith) (λ e. omega arith) (λ e. omega arith)
