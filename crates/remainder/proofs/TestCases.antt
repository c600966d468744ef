-- What the tests of `absolute` and of `above` show of their floats. Assumes nothing.
use Rattle.std.proofs.Common.{◌≡◌, zero, suc, ◌+◌, ◌*◌, ◌<◌, Bool, true, false, not, ◌||◌, T, eqb, sym, refl}
use Rattle.std.proofs.Common.{true≢false, zero-lt-suc, mul-pos, zero-mul, arith, eqb→eq, lt→ltb, nltb→le, ltb-false}
use Rattle.std.proofs.Common.{ltb-true}
use mathlib.Core.Bool.{beq}
use lib.Arith.{le→nltb}
use lib.Ieee.{Float, nan, inf, fin, binary64, up, down, odd, neg, rem, div, lt, eq, fits, is_nan, of_fields, of_bits}
use lib.Ieee.Fits.{up_pos, down_pos, and_l}
use lib.Ieee.Positive.{positive, first_pos}
use denote.Floats.{passes}
use Rattle.magnitude.proofs.Comparisons.{nlt→le}
use Rattle.remainder.specs.Euclid as euclid
use Rattle.remainder.specs.Euclid.{absolute_of}
use Rattle.remainder.specs.Digits.{Divided}
use Rattle.rounding.proofs.RoundsToItself.{value-unique}

abbrev zero-f : Float
zero-f = of_bits binary64 0

abbrev infinity : Float
infinity = div binary64 (of_bits binary64 0x3ff0_0000_0000_0000) zero-f

-- ---- absolute
pub negative : (x : Float) → lt x zero-f ≡ true → neg x ≡ absolute_of x
unfolding lt neg odd of_fields of_bits
negative nan h = refl
negative (inf true) h = refl
negative (inf false) h = absurd (true≢false (sym h))
negative (fin true m e) h = refl
negative (fin false m e) h = absurd (omega (arith, ltb-true (m * up e * 1) (0 * 1 * down e) h, zero-mul (down e)))

pub a-zero : (x : Float) → T (fits binary64 x) → eq x zero-f ≡ true → zero-f ≡ absolute_of x
unfolding eq fits odd of_fields of_bits
a-zero nan p h = absurd (true≢false (sym h))
a-zero (inf s) p h = absurd (true≢false (sym h))
a-zero (fin s zero e) p h =
    value-unique binary64 zero-f (fin false zero e) false 0 tt p (refl, refl) (refl, simp zero-mul)
a-zero (fin s (suc m) e) p h =
    let a = suc m * up e * 1 in
    let b = 0 * 1 * down e in
    absurd (omega (
      arith,
      eqb→eq a b (and_l (eqb a b) (beq s false || eqb a 0) (passes _ h)),
      mul-pos (zero-lt-suc m) (up_pos e),
    ))

pub the_same : (x : Float) → lt x zero-f ≡ false → eq x zero-f ≡ false → x ≡ absolute_of x
unfolding lt eq odd of_fields of_bits
the_same nan h k = refl
the_same (inf true) h k = absurd (true≢false h)
the_same (inf false) h k = refl
the_same (fin false m e) h k = refl
the_same (fin true zero e) h k = absurd (true≢false (simp zero-mul at k))
the_same (fin true (suc m) e) h k =
    absurd (omega (arith, ltb-false 0 (suc m * up e * 1 + 0 * 1 * down e) h, mul-pos (zero-lt-suc m) (up_pos e)))

pub not-below : (x : Float) → T (not (lt (absolute_of x) euclid.zero))
unfolding lt
not-below nan = tt
not-below (inf s) = tt
not-below (fin s m e) = le→nltb (m * up e * 1) (0 * 1 * down e) (omega arith)

-- ---- above
pub nothing-to-divide : (a b : Float) → T (not (lt b euclid.zero)) → lt zero-f b ≡ false
    → div binary64 zero-f zero-f ≡ rem binary64 a b
unfolding lt rem div odd of_fields of_bits
nothing-to-divide nan b p h = refl
nothing-to-divide (inf s) b p h = refl
nothing-to-divide (fin s m e) nan p h = refl
nothing-to-divide (fin s m e) (inf true) p h = absurd p
nothing-to-divide (fin s m e) (inf false) p h = absurd (true≢false h)
nothing-to-divide (fin s m e) (fin t zero d) p h = refl
nothing-to-divide (fin s m e) (fin true (suc n) d) p h =
    absurd (omega (arith, nltb→le 0 (suc n * up d * 1 + 0 * 1 * down d) p, mul-pos (zero-lt-suc n) (up_pos d)))
nothing-to-divide (fin s m e) (fin false (suc n) d) p h =
    absurd (omega (
      arith,
      ltb-false (0 * 1 * down d) (suc n * up d * 1) h,
      zero-mul (down d),
      mul-pos (zero-lt-suc n) (up_pos d),
    ))

pub endless : (a b : Float) → T (not (lt a euclid.zero)) → lt a infinity ≡ false
    → div binary64 zero-f zero-f ≡ rem binary64 a b
unfolding lt rem div odd of_fields of_bits
endless nan b p h = refl
endless (inf s) b p h = refl
endless (fin s m e) b p h = absurd (true≢false h)

pub refuted : {t : Bool} → t ≡ false → T (not t)
refuted h = rw h tt

pub dividing : (a b : Float) → lt a b ≡ false → lt zero-f b ≡ true → lt a infinity ≡ true → Divided a b
unfolding lt div is_nan odd of_fields of_bits
dividing a nan g h k = absurd (true≢false (sym h))
dividing a (inf true) g h k = absurd (true≢false (sym h))
dividing nan (inf false) g h k = absurd (true≢false (sym k))
dividing (inf true) (inf false) g h k = absurd (true≢false g)
dividing (inf false) (inf false) g h k = absurd (true≢false (sym k))
dividing (fin s m e) (inf false) g h k = absurd (true≢false g)
dividing a (fin true n d) g h k = absurd (true≢false (sym h))
dividing nan (fin false n d) g h k = absurd (true≢false (sym k))
dividing (inf true) (fin false n d) g h k = absurd (true≢false g)
dividing (inf false) (fin false n d) g h k = absurd (true≢false (sym k))
dividing (fin s m e) (fin false n d) g h k =
    let some : 0 < n * up d = omega (arith, ltb-true (0 * 1 * down d) (n * up d * 1) h) in
    record {
      dividend = large s g (mul-pos some (down_pos e));
      divisor = lt→ltb 0 n (first_pos n (up d) some);
      order = nlt→le (fin false n d) (fin s m e) tt tt (refuted g);
    }
  where
    large : (s : Bool) → lt (fin s m e) (fin false n d) ≡ false → 0 < n * up d * down e → T (positive (fin s m e))
    large true g some = absurd (omega (arith, ltb-false 0 (m * up e * down d + n * up d * down e) g))
    large false g some =
        lt→ltb 0 m (first_pos m (up e)
        (first_pos (m * up e) (down d) (omega (arith, ltb-false (m * up e * down d) (n * up d * down e) g))))
