-- `quality_codes::codes::mode` meets its contract, by its four cases. Assumes nothing.
use mathlib.Core.Path.{◌≡◌, refl}
use Prim.Native.Nat.{ℕ, zero, suc}
use native.Mathlib.Omega.{arith}
use borrow.Author.Tests.{lt-leb}
use Rattle.quality_mode.specs.declared.QualityMode.TheVariants.{Ultra}
use Rattle.quality_codes.specs.Codes.{mode_of}
use Rattle.quality_codes.proofs.codes.mode.Goals as goal

pub returns-in-0 : goal.returns-in-0
returns-in-0 c = rw c.in-0.is

pub returns-in-1 : goal.returns-in-1
returns-in-1 c = rw c.in-1.is

pub returns-in-2 : goal.returns-in-2
returns-in-2 c = rw c.in-2.is

above : (k : ℕ) → (k ≡ 0 → ⊥) → (k ≡ 1 → ⊥) → (k ≡ 2 → ⊥) → Ultra ≡ mode_of k
above zero d n h = absurd (d refl)
above (suc zero) d n h = absurd (n refl)
above (suc (suc zero)) d n h = absurd (h refl)
above (suc (suc (suc k))) d n h =
    let j = suc (suc (suc k)) in rw (lt-leb j 0 (omega arith), lt-leb j 1 (omega arith), lt-leb j 2 (omega arith))

pub returns-in_default : goal.returns-in_default
returns-in_default c = above c.args.code (omega arith) (omega arith) (omega arith)
