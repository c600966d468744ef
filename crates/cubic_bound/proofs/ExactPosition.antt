-- The position is exact, because i - d / 65536 has at most 53 digits. So the reader's integer part is the floor of the
-- exact position, and its fraction m / 65536, with m below 65536, is exact too. Assumes nothing.
use mathlib.Core.Path.{◌≡◌, sym, ap}
use mathlib.Core.Bool.{true, false}
use Prim.Native.Nat.{ℕ, suc, ◌+◌, ◌-◌, ◌*◌, ◌/◌, ◌%◌, ◌^◌, ◌≤◌, ◌<◌}
use native.Mathlib.Nat.{div-add-mod', mod-lt, le_trans, le_of_mul-le-mul_right, lt_of_mul-lt-mul_right}
use native.Mathlib.Nat.{mul-lt-mul_of_pos_right}
use native.Mathlib.Omega.{arith}
use lib.Dec.{lit≤, lit<}
use lib.IntN.{ℤ, pos, negsuc, nat_abs, ◌*ℤ◌}
use lib.Ieee.{Float, nan, inf, fin, binary64, up, down, of_int}
use lib.Ieee.Fits.{down_pos}
use Rattle.rounding_error.specs.Fraction.{frac, whole, zp, zn, Same}
use Rattle.rounding_error.specs.Value.{Is}
use Rattle.rounding_error.proofs.Same.{same-trans}
use Rattle.rounding_error.proofs.Value.{value-is}
use Rattle.rounding_error.proofs.WholeDifferences.{rep-own, rep_pos, rep_neg, rep-minus, rep-same, rep-unique, rep-to}
use Rattle.rounding_error.proofs.Integers.{Steps, rep-size, steps-sub}
use Rattle.magnitude.specs.Bounds.{AtMost}
use Rattle.magnitude.proofs.WholeFloats.{whole-value}
use Rattle.integer_part.specs.Parts.{floor_of, fraction_of}
use Rattle.integer_part.proofs.Floors.{Around, floor-unique, floor-at-most}
use Rattle.variable_delay.specs.Reader.{position_of}
use Rattle.cubic_bound.specs.Exact.{M}
use Rattle.cubic_bound.specs.Desk.{WholeDelay, place, integer, fraction}

-- ---- an integer as a float, in 65536ths
integer-steps : (z : ℤ) → nat_abs z ≤ 2 ^ 53 → Steps (of_int binary64 z) (z *ℤ M) 16
integer-steps (pos k) h =
    let i = value-is (of_int binary64 (pos k)) false k 1 (lit< tt) (whole-value binary64 (pos k) h) in
    record { is = record { real = i.real; same = same-trans i.same (omega arith) } }
integer-steps (negsuc k) h =
    let i = value-is (of_int binary64 (negsuc k)) true (suc k) 1 (lit< tt) (whole-value binary64 (negsuc k) h) in
    let e : Same (frac 0 (suc k) 1) (frac 0 (suc k * 65536) 65536) = omega arith in
    record {
      is =
          record {
            real = i.real;
            same = same-trans i.same (same-trans e (rep-same 65536 (lit< tt) (rep_neg (rep_pos (suc k * 65536)))));
          };
    }

-- ---- the position
place-size : (i d : ℕ) → i < 2 ^ 36 → d ≤ 2 ^ 36 * 65536 → nat_abs (place i d) ≤ 2 ^ 52
place-size i d h l = rep-size (2 ^ 52) (rep-minus (rep_pos (i * 65536)) (rep_pos d)) (omega arith) (omega arith)

pub position-is : (i : ℕ) {y : Float} {d : ℕ} → i < 2 ^ 36 → WholeDelay y d → Steps (position_of i y) (place i d) 16
position-is i {d = d} h y =
    let s = place-size i d h y.small in
    steps-sub binary64 {a = pos i *ℤ M} {b = pos d} (omega arith) (lit≤ tt) (integer-steps (pos i) (omega arith))
    (record { is = y.is })

-- ---- its integer part and its fraction: n is 65536 times the integer, and m more
pub record Split (n : ℤ) (m : ℕ) : Type 0 where
  pub below : m < 65536
  pub is : fraction n ≡ pos m
  pub parts : zp n + zn (integer n) * 65536 ≡ zn n + zp (integer n) * 65536 + m

pub split : (n : ℤ) → (m : ℕ) × Split n m
split (pos a) =
    let e = div-add-mod' a 65536 in (
      a % 65536,
      record {
        below = mod-lt a (lit< tt);
        is =
            rep-unique (rep-to (rep-minus (rep_pos a) (rep_pos (a / 65536 * 65536))) (omega arith))
            (rep_pos (a % 65536));
        parts = omega arith;
      },
    )
split (negsuc a) =
    let e = div-add-mod' a 65536 in
    let l = mod-lt a {m = 65536} (lit< tt) in (
      65535 - a % 65536,
      record {
        below = omega arith;
        is =
            rep-unique
            (rep-to (rep-minus (rep-own (negsuc a)) (rep_neg (rep_pos (suc (a / 65536) * 65536)))) (omega arith))
            (rep_pos (65535 - a % 65536));
        parts = omega arith;
      },
    )

-- ---- the reader's integer part: z ≤ x < z + 1, for x = (P - N) / D = n / 65536 and z = z⁺ - z⁻
module _ (D P N p n z⁺ z⁻ m : ℕ) (same : P * 65536 + n * D ≡ p * D + N * 65536)
    (parts : p + z⁻ * 65536 ≡ n + z⁺ * 65536 + m) where
  not-above : z⁺ * D + N ≤ z⁻ * D + P
  not-above = le_of_mul-le-mul_right {k = 65536} (omega (arith, ap (λ (x : ℕ). x * D) parts)) (lit< tt)

  next-above : 0 < D → m < 65536 → z⁻ * D + P < suc z⁺ * D + N
  next-above d l =
      lt_of_mul-lt-mul_right 65536 (omega (arith, ap (λ (x : ℕ). x * D) parts, mul-lt-mul_of_pos_right l d))

around : (x : Float) {n : ℤ} {m : ℕ} → Is x (whole n 65536) → Split n m → Around (integer n) x
around nan w s = absurd w.real
around (inf t) w s = absurd w.real
around (fin false k e) {n} {m} w s =
    let z = integer n in (
      not-above (down e) (k * up e) 0 (zp n) (zn n) (zp z) (zn z) m w.same.cross s.parts,
      next-above (down e) (k * up e) 0 (zp n) (zn n) (zp z) (zn z) m w.same.cross s.parts (down_pos e)
          s.below,
    )
around (fin true k e) {n} {m} w s =
    let z = integer n in (
      not-above (down e) 0 (k * up e) (zp n) (zn n) (zp z) (zn z) m w.same.cross s.parts,
      next-above (down e) 0 (k * up e) (zp n) (zn n) (zp z) (zn z) m w.same.cross s.parts (down_pos e)
          s.below,
    )

module _ {x : Float} {n : ℤ} {m : ℕ} (small : AtMost (2 ^ 36) x) (w : Steps x n 16) (s : Split n m) where
  pub integer-is : floor_of x ≡ integer n
  integer-is = sym (floor-unique (2 ^ 36) x (integer n) (lit< tt) small (around x w.is s))

  pub fraction-is : Steps (fraction_of x) (pos m) 16
  unfolding fraction_of
  fraction-is =
      let room : nat_abs (fraction n) < 2 ^ 53 = rw s.is (omega (arith, s.below)) in
      let held : nat_abs (integer n) ≤ 2 ^ 53 =
      le_trans (rw integer-is at (floor-at-most (2 ^ 36) x (lit< tt) small)) (lit≤ tt) in
      rw (
        integer-is,
        ← s.is,
      ) (steps-sub binary64 {a = n} {b = integer n *ℤ M} room (lit≤ tt) w (integer-steps (integer n) held))
