-- W2d. The stored digits by one product and one sum, for any format and width. x · 2^(w-1) is exact, and with 3 ·
-- 2^(prec-2) added it lies where the format's values are the whole numbers, so that the sum rounds it to the nearest, a
-- tie to the even one. The last w digits of the sum's pattern are those of two's complement. Assumes nothing.
use mathlib.Core.Path.{◌≡◌, refl, sym, ap, ◌∙◌, subst}
use mathlib.Core.Bool.{Bool, true, false, cond, not}
use Prim.Native.Nat.{ℕ, suc, ◌+◌, ◌-◌, ◌*◌, ◌^◌, ◌≤◌, ◌<◌}
use native.Mathlib.Nat.{zero-add, add_comm, mul_assoc, mul_comm, mul-one, one-mul, mul_right_comm, mul-pos}
use native.Mathlib.Nat.{mul-le-mul_right, mul-lt-mul_of_pos_right}
use native.Mathlib.Nat.{lt_of_le_of_lt, lt_of_lt_of_le, le_of_eq}
use native.Mathlib.Omega.{arith}
use lib.Dec.{T}
use lib.Pow.{pow-add, pow_pos, pow_mono}
use lib.IntN.{ℤ, pos}
use lib.Ieee.{Float, fin, Format, prec, emax, low, hid, up, down}
use lib.Ieee.{round, units, mul, add, sum, fits, is_nan, to_bits}
use lib.Ieee.Exact.{HasValue, units_val}
use lib.Ieee.Fits.{down_pos}
use lib.Ieee.Nearest.{closest}
use Rattle.interval.proofs.Signed.{ring}
use Rattle.rounding.proofs.Adding.{add-units}
use Rattle.rounding.proofs.NearestWhole.{closest-shift}
use Rattle.rounding.proofs.Sums.{sum_like, sum_over}
use Rattle.rounding.proofs.Units.{bits-units}
use Rattle.rounding.proofs.Values.{value-no-nan}
use Rattle.rounding.proofs.WithinHalfDivisor.{closest-near}
use Rattle.stored_samples.proofs.Halves.{closest-less}
use Rattle.stored_samples.proofs.Scaled.{Room, room, whole-units, product}

-- ---- with 3 · 2^(prec-2) added, at the width k + 2
abbrev pub scaled : Format → ℕ → Float → Float
scaled f k x = mul f x (fin false 1 (pos (suc k)))

abbrev pub shifted : Format → ℕ → Float → Float
shifted f k x = add f (scaled f k x) (fin false 3 (pos (prec f - 2)))

module _ (f : Format) (k : ℕ) (wide : suc k ≤ prec f - 3)
    (s : Bool) (m : ℕ) (e : ℤ) (held : T (fits f (fin s m e))) where
  abbrev x : Float
  x = fin s m e

  abbrev d : ℕ
  d = down e

  abbrev u : ℕ
  u = 2 ^ suc k

  abbrev a : ℕ
  a = m * up e * u

  abbrev n : ℕ
  n = closest a d

  abbrev q : ℕ
  q = 2 ^ (prec f - 3)

  module _ (fine : n ≤ u) where
    R : Room f q
    R = room f

    D : 0 < d
    D = down_pos e

    less : u ≤ q
    less = pow_mono wide

    -- It is at most three quarters of 3 · 2^(prec-2), so that the sum and the difference lie between 2^(prec-1) and
    -- 2^prec.
    bound : a * 2 ≤ q * d * 3
    bound =
        omega (
          arith,
          (closest-near a d D).1,
          mul-le-mul_right d fine,
          mul-le-mul_right d less,
          mul-le-mul_right d (pow_pos (prec f - 3)),
          one-mul d,
        )

    some : 0 < q * d
    some = mul-pos (pow_pos (prec f - 3)) D

    abbrev big : ℕ
    big = 3 * q * 2 * d

    big-is : big ≡ q * d * 6
    big-is = simp ring (omega arith)

    lower : hid f * d ≡ q * d * 4
    lower = ap (λ (z : ℕ). z * d) R.hidden ∙ mul_right_comm q 4 d

    upper : 2 ^ prec f * d ≡ q * d * 8
    upper = ap (λ (z : ℕ). z * d) R.digits ∙ mul_right_comm q 8 d

    little : a < 2 ^ suc (emax f) * d
    little = omega (arith, bound, upper, mul-lt-mul_of_pos_right R.below D, some)

    exact : HasValue (scaled f k x) s a d
    exact = product f s m e (suc k) held little

    big-value : HasValue (fin false 3 (pos (prec f - 2))) false big d
    big-value =
        (refl, ap (λ (z : ℕ). 3 * z * d) R.added ∙ ap (λ (z : ℕ). z * d) (sym (mul_assoc 3 q 2)) ∙ sym (mul-one big))

    abbrev total : ℕ
    total = cond s (3 * q * 2 - n) (3 * q * 2 + n)

    is-units : shifted f k x ≡ units f false total (low f)
    is-units = add-units f (scaled f k x) _ s false a big d D exact big-value ∙ go s
      where
        go : (t : Bool) → sum f t a false big d ≡ units f false (cond t (3 * q * 2 - n) (3 * q * 2 + n)) (low f)
        go true =
            sum_over f true false a big d refl (omega (arith, bound, big-is, some))
            ∙ whole-units f (big - a) d D (omega (arith, bound, big-is, lower)) (omega (arith, big-is, upper, some))
            ∙ ap (λ (z : ℕ). units f false z (low f)) (closest-less (3 * q) a d D (omega (arith, bound, big-is)))
        go false =
            sum_like f false false a big d refl
            ∙ ap (λ (z : ℕ). round f false z d) (add_comm a big)
            ∙ whole-units f (big + a) d D (omega (arith, big-is, lower)) (omega (arith, bound, big-is, upper, some))
            ∙ ap (λ (z : ℕ). units f false z (low f)) (closest-shift (3 * q) a d D)

    -- ---- the pattern of the sum
    between : (hid f ≤ total) × (total ≤ 2 ^ prec f)
    between = go s
      where
        go : (t : Bool) → (hid f ≤ cond t (3 * q * 2 - n) (3 * q * 2 + n))
            × (cond t (3 * q * 2 - n) (3 * q * 2 + n) ≤ 2 ^ prec f)
        go true = (omega (arith, less, R.hidden), omega (arith, R.digits))
        go false = (omega (arith, R.hidden), omega (arith, less, R.digits))

    value : HasValue (shifted f k x) false (total * 2 ^ low f) (2 ^ low f)
    value =
        subst (λ (z : Float). HasValue z false (total * 2 ^ low f) (2 ^ low f)) (sym is-units)
        (units_val f false total (low f)
        (lt_of_le_of_lt (mul-le-mul_right (2 ^ low f) between.1)
        (lt_of_lt_of_le (mul-lt-mul_of_pos_right R.below (pow_pos (low f)))
        (le_of_eq (mul_comm (2 ^ suc (emax f)) (2 ^ low f) ∙ sym (pow-add 2 (low f) (suc (emax f))))))))

    pub no_nan : T (not (is_nan (shifted f k x)))
    no_nan = value-no-nan (shifted f k x) false (total * 2 ^ low f) (2 ^ low f) value

    pub bits : to_bits f (shifted f k x) ≡ low f * hid f + total
    bits =
        bits-units f (shifted f k x) false total (low f) between.1 (λ _. between.0) value
        ∙ zero-add (low f * hid f + total)
