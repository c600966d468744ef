-- The whole number nearest to a quotient is the one within half a divisor. Nothing here is about floats. Assumes
-- nothing.
use mathlib.Core.Path.{◌≡◌, ap, ◌∙◌, subst}
use mathlib.Core.Logic.{◌⊎◌, inl, inr}
use Prim.Native.Nat.{ℕ, suc, ◌+◌, ◌*◌, ◌/◌, ◌%◌, ◌≤◌, ◌<◌, compare, Ordering}
use native.Mathlib.Nat.{le_trans, le_of_eq, mul-le-mul_right, lt_of_mul-lt-mul_right, le_of_suc-le-suc, suc-mul}
use native.Mathlib.Nat.{div-add-mod', mod-lt, le_antisymm}
use native.Mathlib.Omega.{arith}
use lib.Ieee.{nearest}
use lib.Ieee.Nearest.{closest, closest_mono}
use Rattle.rounding.proofs.NumberOrders.{Cmp, bit, cmp}

pub closest-near : (a d : ℕ) → 0 < d → (closest a d * d * 2 ≤ a * 2 + d) × (a * 2 ≤ closest a d * d * 2 + d)
closest-near a d D =
    subst (λ (z : ℕ). (closest a d * d * 2 ≤ z * 2 + d) × (z * 2 ≤ closest a d * d * 2 + d)) (div-add-mod' a d)
    (go (a / d) (a % d) (compare (a % d * 2) d) (cmp (a % d * 2) d) (mod-lt a D) (bit (a / d)))
  where
    go : (q r : ℕ) (o : Ordering) → Cmp o (r * 2) d → r < d → (q % 2 ≡ 0) ⊎ (q % 2 ≡ 1)
        → (nearest q o * d * 2 ≤ (q * d + r) * 2 + d) × ((q * d + r) * 2 ≤ nearest q o * d * 2 + d)
    go q r Ordering.lt c l b = (omega arith, omega arith)
    go q r Ordering.eq c l (inl b) =
        let e : (q + q % 2) * d ≡ q * d = ap (λ (z : ℕ). z * d) (omega arith) in
        (omega arith, omega arith)
    go q r Ordering.eq c l (inr b) =
        let e : (q + q % 2) * d ≡ q * d + d = ap (λ (z : ℕ). z * d) (omega arith) ∙ suc-mul q d in
        (omega arith, omega arith)
    go q r Ordering.gt c l b =
        let e : suc q * d ≡ q * d + d = suc-mul q d in
        (omega arith, omega arith)

pub closest-unique : (a d q : ℕ) → 0 < d → q * d * 2 < a * 2 + d → a * 2 < q * d * 2 + d → closest a d ≡ q
closest-unique a d q D lo hi =
    let c = closest a d in
    let n = closest-near a d D in
    let x : suc c * d ≡ c * d + d = suc-mul c d in
    let y : suc q * d ≡ q * d + d = suc-mul q d in
    let f : c * d < suc q * d = omega arith in
    let g : q * d < suc c * d = omega arith in
    le_antisymm (le_of_suc-le-suc (lt_of_mul-lt-mul_right d f)) (le_of_suc-le-suc (lt_of_mul-lt-mul_right d g))

pub closest-multiple : (w d : ℕ) → 0 < d → closest (w * d) d ≡ w
closest-multiple w d D = closest-unique (w * d) d w D (omega arith) (omega arith)

pub closest-none : (a d : ℕ) → a * 2 < d → closest a d ≡ 0
closest-none a d h = closest-unique a d 0 (omega arith) (omega arith) (omega arith)

pub closest-most : (a d w : ℕ) → 0 < d → a ≤ w * d → closest a d ≤ w
closest-most a d w D h =
    le_trans (closest_mono a d (w * d) d D D (mul-le-mul_right d h)) (le_of_eq (closest-multiple w d D))
