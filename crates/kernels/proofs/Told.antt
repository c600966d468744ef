-- The answer of `refusal`, split into its two tests again, for a reader that has tests of its own beside them. If the
-- settings fail, the other test does not count. Assumes nothing.
use mathlib.Core.Path.{◌≡◌, refl}
use mathlib.Core.Bool.{Bool, true, false, not, cond}
use Prim.Native.Nat.{ℕ}
use lib.Dec.{eqb}
use Rattle.kernels.specs.Kernels.{own_ok, table_for, kernel_verdict}
use Rattle.kernels.specs.declared.Kernel.{Kernel}

pub own-told : (k : Kernel) (len : ℕ) {no : ℕ} → no ≡ kernel_verdict k len → not (eqb no 1) ≡ own_ok k
own-told k len e = rw e (go (own_ok k) (eqb len (table_for k)))
  where
    go : (a b : Bool) → not (eqb (cond a (cond b 0 2) 1) 1) ≡ a
    go true true = refl
    go true false = refl
    go false b = refl

pub lent-told : (k : Kernel) (len : ℕ) {no : ℕ} → no ≡ kernel_verdict k len → own_ok k ≡ true
    → not (eqb no 2) ≡ eqb len (table_for k)
lent-told k len e own = rw (e, own) (go (eqb len (table_for k)))
  where
    go : (b : Bool) → not (eqb (cond b 0 2) 2) ≡ b
    go true = refl
    go false = refl
