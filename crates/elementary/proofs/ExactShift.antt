-- E4. A number from 1/2 to 1 in magnitude is a whole number of 2 ^ -53, so that x - 1 and x + 1 are exact. Assumes
-- nothing.
use mathlib.Core.Path.{◌≡◌}
use mathlib.Core.Bool.{Bool, true, false}
use Prim.Native.Nat.{ℕ, zero, suc, ◌*◌, ◌^◌, ◌≤◌, ◌<◌}
use native.Mathlib.Nat.{le_of_mul-le-mul_right}
use native.Mathlib.Omega.{arith}
use lib.IntN.{ℤ}
use lib.Dec.{T, leb→le, lit≤, lit<}
use lib.Ieee.{Float, fin, binary64, up, down, add, sub, fits}
use lib.Ieee.Fits.{down_pos}
use Rattle.rounding.proofs.Values.{fits-parts}
use Rattle.rounding_error.specs.Fraction.{frac, plus, Same}
use Rattle.rounding_error.specs.Value.{val, signed, Is}
use Rattle.rounding_error.proofs.Same.{same_refl, same-sym, same-trans, plus-same}
use Rattle.rounding_error.proofs.Value.{is-val}
use Rattle.rounding_error.proofs.Exact.{add_is, sub_is}
use Rattle.rounding_error.proofs.Grid.{grid-of}
use Rattle.polynomials.specs.Range.{at_most}
use Rattle.elementary.specs.Answers.{one}

-- ---- x = N / 2 ^ 53, or its opposite, with 0 < N ≤ 2 ^ 53
pub record Unit (x : Float) (s : Bool) : Type 0 where
  pub N : ℕ
  pub is : Is x (signed s N (2 ^ 53))
  pub some : 0 < N
  pub most : N ≤ 2 ^ 53

pub unit-of : (s : Bool) (m : ℕ) (e : ℤ) → T (fits binary64 (fin s m e)) → T (at_most 1 (fin s m e))
    → down e < m * up e * 2 → Unit (fin s m e) s
unit-of s m e f h l =
    let g = grid-of binary64 s m e 1 53 (fits-parts binary64 s m e f).0 (lit≤ tt) l in
    let b = leb→le (m * up e) (1 * down e) h in
    let q = level s (m * up e) (down e) g.N g.is.same in
    record {
      N = g.N;
      is = g.is;
      some = positive (m * up e) (down e) g.N l q;
      most = le_of_mul-le-mul_right {k = down e} (cap (m * up e) (down e) g.N b q) (down_pos e);
    }
  where
    level : (s : Bool) (A C N : ℕ) → Same (signed s A C) (signed s N (2 ^ 53)) → A * 2 ^ 53 ≡ N * C
    level false A C N e = omega (arith, e.cross)
    level true A C N e = omega (arith, e.cross)

    positive : (A C N : ℕ) → C < A * 2 → A * 2 ^ 53 ≡ N * C → 0 < N
    positive A C zero l q = omega arith
    positive A C (suc N) l q = omega arith

    cap : (A C N : ℕ) → A ≤ 1 * C → A * 2 ^ 53 ≡ N * C → N * C ≤ 2 ^ 53 * C
    cap A C N b q = omega arith

-- ---- x - 1 for 1/2 < x, x + 1 for x < -1/2
pub minus_one : {x : Float} → Unit x false → Is (sub binary64 x one) (plus (val x) (frac 0 1 1))
minus_one u =
    let i =
    sub_is {f = binary64} {P = u.N} {N = 2 ^ 53} {t = 53} u.is (is-val one tt) (omega arith)
    (record { hi = omega (arith, u.most); lo = omega (arith, u.some); deep = lit≤ tt }) in
    record {
      real = i.real;
      same =
          same-trans i.same
          (same-trans (omega arith) (plus-same (same-sym u.is.same) (same_refl {x = frac 0 1 1} (lit< tt))));
    }

pub plus_one : {x : Float} → Unit x true → Is (add binary64 x one) (plus (val x) (frac 1 0 1))
plus_one u =
    let i =
    add_is {f = binary64} {P = 2 ^ 53} {N = u.N} {t = 53} u.is (is-val one tt) (omega arith)
    (record { hi = omega (arith, u.some); lo = omega (arith, u.most); deep = lit≤ tt }) in
    record {
      real = i.real;
      same =
          same-trans i.same
          (same-trans (omega arith) (plus-same (same-sym u.is.same) (same_refl {x = frac 1 0 1} (lit< tt))));
    }
