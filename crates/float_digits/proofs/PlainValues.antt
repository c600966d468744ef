-- Plain values: how comparisons recognise them, and what they are. Assumes nothing.
use mathlib.Core.Path.{◌≡◌, refl, sym, ap, ◌∙◌}
use mathlib.Core.Bool.{Bool, true, false, not, true≢false}
use Prim.Native.Nat.{ℕ, zero, suc, ◌*◌, ◌<◌}
use native.Mathlib.Nat.{le_of_eq, lt_of_lt_of_le, lt_irrefl, zero-lt-suc, zero-mul, mul-pos}
use borrow.Author.Tests.{ne_eqb}
use lib.Dec.{T}
use lib.Ieee.{Float, nan, inf, fin, binary64, up, down, odd, of_fields, of_bits, is_nan, lt, eq, ne, neg, div}
use lib.Ieee.Fits.{up_pos}
use lib.Ieee.Exact.{HasValue}
use lib.Ieee.Positive.{positive, first_pos}
use lib.Ieee.Scale.{finite}
use Rattle.rounding.proofs.Comparing.{is-finite-yes, is-finite-no}
use Rattle.float_digits.specs.Pattern.{plain}

-- ---- by comparisons
abbrev zero-f : Float
zero-f = of_bits binary64 0

pub eq-zero : (x : Float) → finite x ≡ true → eq x zero-f ≡ not (plain x)
unfolding eq of_bits of_fields odd
eq-zero nan h = absurd (true≢false (sym h))
eq-zero (inf s) h = absurd (true≢false (sym h))
eq-zero (fin true zero e) h = rw (zero-mul (up e), zero-mul (down e))
eq-zero (fin false zero e) h = rw (zero-mul (up e), zero-mul (down e))
eq-zero (fin s (suc m) e) h =
    rw (ne_eqb (suc m * up e * 1) (0 * down e)
    (λ q. lt_irrefl 0 (lt_of_lt_of_le (mul-pos (mul-pos (zero-lt-suc m) (up_pos e)) (zero-lt-suc 0))
    (le_of_eq (q ∙ zero-mul (down e))))))

not_finite : (x : Float) → finite x ≡ false → false ≡ plain x
not_finite nan h = h
not_finite (inf s) h = h
not_finite (fin s m e) h = absurd (true≢false h)

abbrev plus-infinity : Float
plus-infinity = div binary64 (of_bits binary64 0x3ff0_0000_0000_0000) zero-f

abbrev minus-infinity : Float
minus-infinity = div binary64 (neg (of_bits binary64 0x3ff0_0000_0000_0000)) zero-f

not-not : (b : Bool) → not (not b) ≡ b
not-not true = refl
not-not false = refl

pub plain-inside : (x : Float) → lt x plus-infinity ≡ true → lt minus-infinity x ≡ true → ne x zero-f ≡ plain x
unfolding ne
plain-inside x a b = ap not (eq-zero x (sym (is-finite-yes x a) ∙ b)) ∙ not-not (plain x)

pub plain-below : (x : Float) → lt x plus-infinity ≡ true → lt minus-infinity x ≡ false → false ≡ plain x
plain-below x a b = not_finite x (sym (is-finite-yes x a) ∙ b)

pub plain-above : (x : Float) → lt x plus-infinity ≡ false → false ≡ plain x
plain-above x a = not_finite x (sym (is-finite-no x a))

-- ---- what they are
pub plain-finite : (x : Float) → T (plain x) → T (finite x)
plain-finite nan h = h
plain-finite (inf s) h = h
plain-finite (fin s m e) h = tt

pub plain-no-nan : (x : Float) → T (plain x) → T (not (is_nan x))
unfolding is_nan
plain-no-nan nan h = h
plain-no-nan (inf s) h = tt
plain-no-nan (fin s m e) h = tt

pub plain-some : (x : Float) (s : Bool) (a c : ℕ) → T (plain x) → 0 < c → HasValue x s a c → 0 < a
plain-some nan s a c p C v = absurd p
plain-some (inf t) s a c p C v = absurd p
plain-some (fin t zero e) s a c p C v = absurd p
plain-some (fin t (suc m) e) s a c p C v =
    first_pos a (down e) (lt_of_lt_of_le (mul-pos (mul-pos (zero-lt-suc m) (up_pos e)) C) (le_of_eq v.1))

pub positive-plain : (x : Float) → T (positive x) → T (plain x)
positive-plain nan h = h
positive-plain (inf s) h = h
positive-plain (fin true m e) h = absurd h
positive-plain (fin false zero e) h = h
positive-plain (fin false (suc m) e) h = tt
