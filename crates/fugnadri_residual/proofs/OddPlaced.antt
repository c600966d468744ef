-- W13. A `placed` that is neither 0 nor 1 is refused by 3, whatever the other numbers are. Assumes nothing.
use mathlib.Core.Path.{◌≡◌, refl}
use mathlib.Core.Bool.{Bool, true, false}
use Prim.Native.Nat.{ℕ, ◌-◌, ◌^◌, ◌<◌}
use native.Mathlib.Omega.{arith}
use borrow.Author.Tests.{ne_eqb, ltb-true}
use Rattle.residual.specs.Refusals.{report_ok}
use Rattle.residual.proofs.ValidReport.{valid}
use Rattle.fugnadri_residual.specs.Words.{numbers, report_from}

pub odd_refused : (n l p k h w : ℕ) → 1 < p → report_ok (report_from (numbers n l p k h w)) ≡ false
odd_refused n l p k h w o = go (report_ok (report_from (numbers n l p k h w))) refl
  where
    go : (t : Bool) → report_ok (report_from (numbers n l p k h w)) ≡ t → t ≡ false
    go false e = refl
    go true e =
        let v = valid (report_from (numbers n l p k h w)) e in
        let q = rw (ne_eqb p 0 (λ z. omega arith), ne_eqb p 1 (λ z. omega arith)) at v.placed in
        absurd (omega (arith, v.few, ltb-true (2 ^ 64 - 1) n q))
