-- A float above 2 ^ -j in magnitude is a whole number of 2 ^ -(prec - 1 + j), because its digits reach no further down.
-- And less than half the smallest unit rounds to zero. Assumes nothing.
use mathlib.Core.Path.{sym, ap, ◌∙◌}
use mathlib.Core.Bool.{Bool, true, false}
use Prim.Native.Nat.{ℕ, suc, ◌+◌, ◌*◌, ◌^◌, ◌≤◌, ◌<◌}
use native.Mathlib.Nat.{le_of_eq, le_trans, lt_of_lt_of_le, lt_of_le_of_lt, le_of_suc-le-suc, mul-one, one-mul}
use native.Mathlib.Nat.{mul_assoc, mul-le-mul_right, mul-lt-mul_of_pos_left, lt_of_mul-lt-mul_right}
use native.Mathlib.Omega.{arith}
use lib.IntN.{ℤ, pos, negsuc}
use lib.Pow.{pow-add, pow_pos, pow_mono}
use lib.Ieee.{Float, fin, Format, prec, emax, low, up, down, round}
use lib.Ieee.Fits.{down_pos}
use lib.Ieee.Exact.{units_val}
use Rattle.rounding.proofs.NumberOrders.{pow_lt_back}
use Rattle.rounding.proofs.WithinHalfDivisor.{closest-none}
use Rattle.rounding.proofs.DroppedDigits.{round-low}
use Rattle.rounding.proofs.Values.{place}
use Rattle.rounding_error.specs.Fraction.{Frac, nil, Same, Within}
use Rattle.rounding_error.specs.Value.{signed, Is}
use Rattle.rounding_error.proofs.Same.{same-trans}
use Rattle.rounding_error.proofs.Value.{signed_same, value-is}
use Rattle.rounding_error.proofs.Operations.{Rounded, bottom, bounded}

-- x is N / 2 ^ t, or its opposite.
pub record Grid (x : Float) (s : Bool) (t : ℕ) : Type 0 where
  pub N : ℕ
  pub is : Is x (signed s N (2 ^ t))

reach : (m : ℕ) (e : ℤ) (p j t : ℕ) → m < 2 ^ p → p + j ≤ suc t → down e < m * up e * 2 ^ j → down e ≤ 2 ^ t
reach m (pos k) p j t h l b = pow_pos t
reach m (negsuc k) p j t h l b =
    pow_mono (le_of_suc-le-suc (pow_lt_back (suc k) (suc t)
    (lt_of_lt_of_le b (le_trans (le_of_eq (ap (λ (z : ℕ). z * 2 ^ j) (mul-one m)))
    (le_trans (mul-le-mul_right (2 ^ j) (less h)) (le_trans (le_of_eq (sym (pow-add 2 p j))) (pow_mono l)))))))
  where
    less : {a b : ℕ} → a < b → a ≤ b
    less h = omega arith

pub grid-of : (f : Format) (s : Bool) (m : ℕ) (e : ℤ) (j t : ℕ) → m < 2 ^ prec f → prec f + j ≤ suc t
    → down e < m * up e * 2 ^ j → Grid (fin s m e) s t
grid-of f s m e j t h l b =
    let i = place t e (reach m e (prec f) j t h l b) in
    record {
      N = m * 2 ^ i.0;
      is =
          record {
            real = tt;
            same =
                signed_same s (m * up e) (down e) (m * 2 ^ i.0) (2 ^ t) (down_pos e) (pow_pos t)
                (mul_assoc m (up e) (2 ^ t) ∙ ap (λ (z : ℕ). m * z) i.1 ∙ sym (mul_assoc m (2 ^ i.0) (down e)));
          };
    }

-- ---- less than half the smallest unit
round-none : (f : Format) (s : Bool) (a c : ℕ) → 0 < c → a * 2 ^ low f * 2 < c → Is (round f s a c) nil
round-none f s a c C h =
    let n : a * 2 ^ low f < 2 ^ prec f * c =
    lt_of_lt_of_le (less (a * 2 ^ low f) h) (more (2 ^ prec f) (pow_pos (prec f))) in
    let i =
    value-is (round f s a c) s 0 (2 ^ low f) (pow_pos (low f))
    (rw (round-low f s a c C n, closest-none (a * 2 ^ low f) (c * 2 ^ 0) (omega arith))
    (units_val f s 0 0 (pow_pos (low f + suc (emax f))))) in
    record { real = i.real; same = same-trans i.same (zero s (2 ^ low f) (pow_pos (low f))) }
  where
    less : (n : ℕ) → n * 2 < c → n < c
    less n h = omega arith

    more : (t : ℕ) → 0 < t → c ≤ t * c
    more t h = le_trans (le_of_eq (sym (one-mul c))) (mul-le-mul_right c h)

    zero : (s : Bool) (l : ℕ) → 0 < l → Same (signed s 0 l) nil
    zero false l L = omega arith
    zero true l L = omega arith

pub rounded-none : {f : Format} {x : Float} {q : Frac} {K B : ℕ} → Within K B q nil → B * (2 ^ low f * 2) < K
    → Rounded f x q → Is x nil
rounded-none {f} {K = K} {B} w l r =
    rw r.is (round-none f r.s r.a r.c (bottom r)
    (lt_of_mul-lt-mul_right K (small r.a r.c (2 ^ low f) (bottom r) (bounded r w) l)))
  where
    small : (a c u : ℕ) → 0 < c → a * K ≤ c * B → B * (u * 2) < K → a * u * 2 * K < c * K
    small a c u C h l = lt_of_le_of_lt (omega (arith, mul-le-mul_right (u * 2) h)) (mul-lt-mul_of_pos_left l C)
