-- The cases of `square_root`: what its tests show of x, and that x or a NaN is the root if nothing has to be computed.
-- Assumes nothing.
use Rattle.std.proofs.Common.{◌≡◌, zero, suc, ◌*◌, true, false, not, T, sym, refl, ◌∙◌, true≢false, le_trans, le_of_eq}
use Rattle.std.proofs.Common.{lt_of_lt_of_le, lt_of_le_of_lt, lt_irrefl, zero-lt-suc, mul-pos, zero-mul, ltb-false}
use Rattle.std.proofs.Common.{ltb-true, lt-ltb}
use lib.Ieee.{Float, nan, inf, fin, binary64, up, down, odd, of_fields, of_bits, is_nan, lt, eq, div}
use lib.Ieee.Fits.{up_pos}
use lib.Ieee.Positive.{positive, first_pos}
use Rattle.rounding.specs.Operations.{root}
use Rattle.float_digits.proofs.PlainValues.{eq-zero}

abbrev zero-f : Float
zero-f = of_bits binary64 0

abbrev infinity : Float
infinity = div binary64 (of_bits binary64 0x3ff0_0000_0000_0000) zero-f

pub above_zero : (x : Float) → lt zero-f x ≡ true → lt x infinity ≡ true → positive x ≡ true
unfolding lt div of_bits of_fields odd
above_zero nan a b = a
above_zero (inf true) a b = a
above_zero (inf false) a b = b
above_zero (fin true m e) a b = a
above_zero (fin false m e) a b =
    lt-ltb 0 m (first_pos m (up e) (first_pos (m * up e) 1
    (lt_of_le_of_lt (le_of_eq (sym (zero-mul (down e)))) (ltb-true (0 * 1 * down e) (m * up e * 1) a))))

pub at-infinity : (x : Float) → lt zero-f x ≡ true → lt x infinity ≡ false → x ≡ root binary64 x
unfolding lt div of_bits of_fields odd root
at-infinity nan a b = refl
at-infinity (inf true) a b = absurd (true≢false (sym a))
at-infinity (inf false) a b = refl
at-infinity (fin s m e) a b = absurd (true≢false b)

pub at_zero : (x : Float) → eq x zero-f ≡ true → x ≡ root binary64 x
unfolding eq of_bits of_fields odd root
at_zero nan a = refl
at_zero (inf s) a = absurd (true≢false (sym a))
at_zero (fin s zero e) a = refl
at_zero (fin s (suc m) e) a = absurd (true≢false (sym a ∙ eq-zero (fin s (suc m) e) refl))

pub below-zero : (x : Float) → lt zero-f x ≡ false → eq x zero-f ≡ false → div binary64 zero-f zero-f ≡ root binary64 x
unfolding lt div of_bits of_fields odd root
below-zero nan a b = refl
below-zero (inf true) a b = refl
below-zero (inf false) a b = absurd (true≢false a)
below-zero (fin s zero e) a b = absurd (true≢false (sym (eq-zero (fin s zero e) refl) ∙ b))
below-zero (fin true (suc m) e) a b = refl
below-zero (fin false (suc m) e) a b =
    absurd (lt_irrefl 0 (lt_of_lt_of_le (mul-pos (mul-pos (zero-lt-suc m) (up_pos e)) (zero-lt-suc 0))
    (le_trans (ltb-false (0 * 1 * down e) (suc m * up e * 1) a) (le_of_eq (zero-mul (down e))))))

pub below_no_nan : (x y : Float) → lt x y ≡ true → T (not (is_nan x))
unfolding lt is_nan
below_no_nan nan y h = absurd (true≢false (sym h))
below_no_nan (inf s) y h = tt
below_no_nan (fin s m e) y h = tt
