-- `oversampled_codes::named` meets its contract, by its five cases. Assumes nothing.
use mathlib.Core.Path.{◌≡◌, refl}
use Prim.Native.Nat.{ℕ, zero, suc}
use native.Mathlib.Omega.{arith}
use Rattle.kernels.specs.declared.Kernel.TheVariants.{Lagrange}
use Rattle.oversampled_codes.specs.Codes.{kernel_of}
use Rattle.oversampled_codes.proofs.named.Goals as goal

pub returns-in-0 : goal.returns-in-0
returns-in-0 c = rw c.in-0.is

pub returns-in-1 : goal.returns-in-1
returns-in-1 c = rw c.in-1.is

pub returns-in-2 : goal.returns-in-2
returns-in-2 c = rw c.in-2.is

pub returns-in-3 : goal.returns-in-3
returns-in-3 c = rw c.in-3.is

above : (k taps phases : ℕ) → (k ≡ 0 → ⊥) → (k ≡ 1 → ⊥) → (k ≡ 2 → ⊥) → (k ≡ 3 → ⊥)
    → Lagrange 0 ≡ kernel_of k taps phases
above zero taps phases a b c d = absurd (a refl)
above (suc zero) taps phases a b c d = absurd (b refl)
above (suc (suc zero)) taps phases a b c d = absurd (c refl)
above (suc (suc (suc zero))) taps phases a b c d = absurd (d refl)
above (suc (suc (suc (suc k)))) taps phases a b c d = refl

pub returns-in_default : goal.returns-in_default
returns-in_default c =
    let a = c.args in
    above a.code a.taps a.phases (λ e. omega arith) (λ e. omega arith) (λ e. omega arith) (λ e. omega arith)
