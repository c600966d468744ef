-- The sum of two signed sizes, to one of which C has been added. If it keeps that one's sign and is above C, it is C
-- plus the sum without C. Assumes nothing.
use mathlib.Core.Path.{◌≡◌, refl, sym, ap, ◌∙◌}
use mathlib.Core.Bool.{Bool, true, false, ◌&&◌, cond, true≢false, false≢true}
use Prim.Native.Nat.{ℕ, ◌+◌, ◌-◌, ◌≤◌, ◌<◌}
use native.Mathlib.Omega.{arith}
use lib.Dec.{ltb}
use borrow.Author.Tests.{lt-ltb, ltb-true, ltb-false}
use Rattle.rounding.proofs.Sums.{sum-sign, sum-size}

pub record Apart (t : Bool) (P : ℕ) (s : Bool) (Q C : ℕ) : Type 0 where
  pub sign : sum-sign t P s Q ≡ s
  pub size : sum-size t P s (C + Q) ≡ C + sum-size t P s Q

-- The case of different signs.
unlike : (t s : Bool) (P Q C : ℕ) → (t ≡ s → ⊥) → (x : Bool) → ltb P (C + Q) ≡ x → cond x s (t && ltb (C + Q) P) ≡ s
    → C < cond x (C + Q - P) (P - (C + Q))
    → (cond (ltb P Q) s (t && ltb Q P) ≡ s) × (cond x (C + Q - P) (P - (C + Q)) ≡ C + cond (ltb P Q) (Q - P) (P - Q))
unlike t s P Q C n true e a h =
    let l : P < Q = omega (arith, ltb-true P (C + Q) e) in
    let b : ltb P Q ≡ true = lt-ltb P Q l in
    (ap (λ (z : Bool). cond z s (t && ltb Q P)) b, omega arith ∙ sym (ap (λ (z : Bool). C + cond z (Q - P) (P - Q)) b))
unlike true true P Q C n false e a h = absurd (n refl)
unlike false false P Q C n false e a h = absurd (n refl)
unlike false true P Q C n false e a h = absurd (false≢true a)
unlike true false P Q C n false e a h = let l : P ≤ C + Q = ltb-false (C + Q) P a in absurd (omega arith)

pub apart : (t : Bool) (P : ℕ) (s : Bool) (Q C : ℕ) → sum-sign t P s (C + Q) ≡ s → C < sum-size t P s (C + Q)
    → Apart t P s Q C
apart true P true Q C a h = record { sign = refl; size = omega arith }
apart false P false Q C a h = record { sign = refl; size = omega arith }
apart true P false Q C a h =
    let r = unlike true false P Q C true≢false (ltb P (C + Q)) refl a h in record { sign = r.0; size = r.1 }
apart false P true Q C a h =
    let r = unlike false true P Q C false≢true (ltb P (C + Q)) refl a h in record { sign = r.0; size = r.1 }
