-- The nearest whole number of a quotient, a tie to the even one: how a machine gets it, its bounds,
-- and what a multiple adds to it. Nothing here is about floats. Assumes nothing.
use mathlib.Core.Path.{◌≡◌, refl, sym, ap, ◌∙◌}
use Prim.Native.Nat.{ℕ, zero, suc, ◌+◌, ◌-◌, ◌*◌, ◌/◌, ◌%◌, ◌≤◌, ◌<◌, compare, Ordering}
use native.Mathlib.Nat.{le_trans, zero-lt-suc, add-mul, suc-mul, div-add-mod', mod-lt, add_assoc, le-div_iff_mul-le}
use native.Mathlib.Nat.{div-lt_iff_lt-mul}
use native.Mathlib.Omega.{arith}
use lib.Arith.{digits_mod, digits_div}
use lib.Ieee.{nearest}
use lib.Ieee.Fits.{nearest-le}
use lib.Ieee.Nearest.{closest, nearest-ge}
use Rattle.rounding.proofs.NumberOrders.{Cmp, cmp}

div_is : (n w d r : ℕ) → n ≡ w * d + r → r < d → n / d ≡ w
div_is n w d r e h = ap (λ (x : ℕ). x / d) e ∙ digits_div w h

mod-is : (n w d r : ℕ) → n ≡ w * d + r → r < d → n % d ≡ r
mod-is n w d r e h = ap (λ (x : ℕ). x % d) e ∙ digits_mod w h

-- ---- half the divisor less one is added, and one more if the quotient is odd
by-add : (a u q r : ℕ) (o : Ordering) → 0 < u → a ≡ q * (u + u) + r → r < u + u → Cmp o (r * 2) (u + u)
    → nearest q o ≡ (a + (u - 1 + q % 2)) / (u + u)
by-add a u q r o U w R h = go o h (q % 2) refl (mod-lt q (zero-lt-suc 1))
  where
    stays : (z : ℕ) → r + (u - 1 + z) < u + u → q ≡ (a + (u - 1 + z)) / (u + u)
    stays z l = sym (div_is (a + (u - 1 + z)) q (u + u) (r + (u - 1 + z)) (omega arith) l)

    moves : (z : ℕ) → u + u ≤ r + (u - 1 + z) → z < 2 → suc q ≡ (a + (u - 1 + z)) / (u + u)
    moves z l b =
        let s : suc q * (u + u) ≡ q * (u + u) + (u + u) = suc-mul q (u + u) in
        sym (div_is (a + (u - 1 + z)) (suc q) (u + u) (r + (u - 1 + z) - (u + u)) (omega arith) (omega arith))

    go : (o : Ordering) → Cmp o (r * 2) (u + u) → (z : ℕ) → q % 2 ≡ z → q % 2 < 2
        → nearest q o ≡ (a + (u - 1 + q % 2)) / (u + u)
    go Ordering.lt c z e b = stays (q % 2) (omega arith)
    go Ordering.gt c z e b = moves (q % 2) (omega arith) b
    go Ordering.eq c zero e b =
        let same : q + q % 2 ≡ q = omega arith in
        same ∙ stays (q % 2) (omega arith)
    go Ordering.eq c (suc z) e b =
        let one : q + q % 2 ≡ suc q = omega arith in
        one ∙ moves (q % 2) (omega arith) b

pub closest-by-add : (a u : ℕ) → 0 < u → closest a (u + u) ≡ (a + (u - 1 + a / (u + u) % 2)) / (u + u)
closest-by-add a u U =
    let P : 0 < u + u = omega arith in
    by-add a u (a / (u + u)) (a % (u + u)) (compare (a % (u + u) * 2) (u + u)) U (sym (div-add-mod' a (u + u)))
    (mod-lt a P) (cmp (a % (u + u) * 2) (u + u))

-- ---- bounds
pub closest-ge : (a d w : ℕ) → 0 < d → w * d ≤ a → w ≤ closest a d
closest-ge a d w D h = le_trans ((le-div_iff_mul-le D).1 h) (nearest-ge (a / d) (compare (a % d * 2) d))

pub closest-le : (a d w : ℕ) → 0 < d → a < w * d → closest a d ≤ w
closest-le a d w D h = le_trans (nearest-le (a / d) (compare (a % d * 2) d)) ((div-lt_iff_lt-mul D).1 h)

-- An even multiple of the divisor can be added before or after.
nearest-shift : (w q : ℕ) (o : Ordering) → nearest (w * 2 + q) o ≡ w * 2 + nearest q o
nearest-shift w q Ordering.lt = refl
nearest-shift w q Ordering.eq = omega arith
nearest-shift w q Ordering.gt = omega arith

pub closest-shift : (w a d : ℕ) → 0 < d → closest (w * 2 * d + a) d ≡ w * 2 + closest a d
closest-shift w a d D =
    let n = w * 2 * d + a in
    let v = w * 2 + a / d in
    let e : n ≡ v * d + a % d =
    ap (λ (z : ℕ). w * 2 * d + z) (sym (div-add-mod' a d))
    ∙ sym (add_assoc (w * 2 * d) (a / d * d) (a % d))
    ∙ ap (λ (z : ℕ). z + a % d) (sym (add-mul (w * 2) (a / d) d)) in
    ap (λ (z : ℕ). nearest z (compare (n % d * 2) d)) (div_is n v d (a % d) e (mod-lt a D))
    ∙ ap (λ (z : ℕ). nearest v (compare (z * 2) d)) (mod-is n v d (a % d) e (mod-lt a D))
    ∙ nearest-shift w (a / d) (compare (a % d * 2) d)
