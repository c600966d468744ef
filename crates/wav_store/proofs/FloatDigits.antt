-- The steps of `nearest_float`, for an f64 that is finite as an f32: its pattern is taken apart, a number is added, and
-- the pattern of the nearest f32 is put together. Assumes nothing.
use mathlib.Core.Path.{◌≡◌, refl, sym, ap, ◌∙◌, subst}
use mathlib.Core.Bool.{Bool, true, false, cond, not, ◌&&◌}
use Prim.Native.Nat.{ℕ, ◌+◌, ◌-◌, ◌*◌, ◌/◌, ◌%◌, ◌^◌, ◌<◌}
use native.Mathlib.Omega.{arith}
use borrow.Author.Tests.{leb-true, leb-false}
use denote.Floats.{passes}
use lib.Dec.{T, leb}
use lib.Ieee.{Float, nan, inf, fin, binary32, binary64, add, sub, mul, lt, fits, is_nan, nan_bits}
use lib.Ieee.{of_bits, to_bits}
use lib.Ieee.Bits.{of_bits-to_bits, to_bits-lt}
use lib.Ieee.Exact.{HasValue}
use lib.Ieee.Fits.{and_i, fits_widens}
use lib.Ieee.Scale.{finite}
use Rattle.magnitude.proofs.Comparisons.{finite_number}
use Rattle.rounding.specs.Operations.{narrowed}
use Rattle.rounding.proofs.Patterns.{finite-rest, rest-no-nan, sign-rest, value-bits}
use Rattle.rounding.proofs.Values.{value-no-nan}
use Rattle.sample_kind.specs.declared.SampleKind.TheVariants.{Float32}
use Rattle.stored_samples.proofs.Below.{narrow-fits}
use Rattle.stored_samples.specs.Stored.{fits_in, word_of}
use Rattle.wav_store.specs.Inner.{least_added}
use Rattle.wav_store.proofs.Added.{times, above, added}
use Rattle.wav_store.proofs.Rounded.{k_lt, apart, is-nearest, pattern}

was-finite : (x : Float) → T (finite (narrowed x)) → T (finite x)
unfolding narrowed
was-finite nan h = h
was-finite (inf s) h = h
was-finite (fin s m e) h = tt

module _ (x : Float) (held : T (fits binary64 x)) (ok : fits_in Float32 x ≡ true) where
  abbrev n : ℕ
  n = to_bits binary64 x

  abbrev s : Bool
  s = leb (2 ^ 63) n

  abbrev b : ℕ
  b = n % 2 ^ 63

  real : T (finite (narrowed x))
  real = passes (finite (narrowed x)) ok

  pub no_nan : T (not (is_nan x))
  no_nan = finite_number x (was-finite x real)

  small : n < 2 ^ 64
  small = to_bits-lt binary64 x held

  own : of_bits binary64 (cond s (2 ^ 63) 0 + b) ≡ x
  own = ap (of_bits binary64) (sym (sign-rest binary64 n small)) ∙ of_bits-to_bits binary64 x held

  fine : b < 0x7ff0_0000_0000_0000
  fine =
      finite-rest binary64 n
      (subst (λ (z : Float). T (finite z)) (sym (of_bits-to_bits binary64 x held)) (was-finite x real))

  finite-own : T (finite (narrowed (of_bits binary64 (cond s (2 ^ 63) 0 + b))))
  finite-own = subst (λ (z : Float). T (finite (narrowed z))) (sym own) real

  abbrev field : ℕ
  field = n / 2 ^ 52 % 2048

  field_is : field ≡ b / 2 ^ 52
  field_is = omega (arith, small)

  pub power-no-nan : T (not (nan_bits binary64 (field * 2 ^ 52)))
  power-no-nan = rest-no-nan binary64 (field * 2 ^ 52) (omega (arith, field_is, fine))

  abbrev scaled : Float
  scaled = mul binary64 (of_bits binary64 (field * 2 ^ 52)) times

  abbrev c : Float
  c = cond (lt least_added scaled) scaled least_added

  abbrev y : Float
  y = sub binary64 (add binary64 x c) c

  few : b / 2 ^ 52 < 1151
  few = omega (arith, k_lt s b fine finite-own)

  abbrev choice : ℕ → Float
  choice E =
      let z = mul binary64 (of_bits binary64 (E * 2 ^ 52)) times in
      cond (lt least_added z) z least_added

  c-value : HasValue c false (3 * 2 ^ 50 * 2 * 2 ^ (925 + (b / 2 ^ 52 - 897))) (2 ^ 1074)
  c-value =
      subst (λ (E : ℕ). HasValue (choice E) false (3 * 2 ^ 50 * 2 * 2 ^ (925 + (b / 2 ^ 52 - 897))) (2 ^ 1074))
      (sym field_is) (added (b / 2 ^ 52) few)

  pub y-no-nan : T (not (is_nan y))
  y-no-nan =
      subst (λ (z : Float). T (not (is_nan (sub binary64 (add binary64 z c) c)))) own
      (value-no-nan _ _ _ (2 ^ 1074) (apart s b fine finite-own c c-value))

  sign-is : n / 2 ^ 63 * 2 ^ 63 ≡ cond s (2 ^ 63) 0
  sign-is = go s refl
    where
      go : (t : Bool) → leb (2 ^ 63) n ≡ t → n / 2 ^ 63 * 2 ^ 63 ≡ cond t (2 ^ 63) 0
      go true e = omega (arith, leb-true (2 ^ 63) n e, small)
      go false e = omega (arith, leb-false (2 ^ 63) n e)

  pub bits : to_bits binary64 y % 2 ^ 63 + n / 2 ^ 63 * 2 ^ 63 ≡ to_bits binary64 (narrowed x)
  bits =
      ap (λ (z : ℕ). to_bits binary64 y % 2 ^ 63 + z) sign-is
      ∙ subst
      (λ (z : Float).
      to_bits binary64 (sub binary64 (add binary64 z c) c) % 2 ^ 63 + cond s (2 ^ 63) 0 ≡ to_bits binary64 (narrowed z))
      own (pattern s b fine finite-own c c-value)

  -- ---- the pattern that is put together
  abbrev m : ℕ
  m = to_bits binary64 y % 2 ^ 63 + n / 2 ^ 63 * 2 ^ 63

  wide : T (fits binary64 (narrowed x))
  wide = fits_widens (narrowed x) (narrow-fits x)

  number : T (not (is_nan (narrowed x)))
  number = finite_number (narrowed x) real

  pub fits_word : m < 2 ^ 64
  fits_word = rw bits (to_bits-lt binary64 (narrowed x) wide)

  pub pattern-no-nan : T (not (nan_bits binary64 m))
  pattern-no-nan = rw bits (value-bits binary64 (narrowed x) wide number)

  pub nearest-is : of_bits binary64 m ≡ narrowed x
  nearest-is = ap (of_bits binary64) bits ∙ of_bits-to_bits binary64 (narrowed x) wide

  pub casts : T (fits binary32 (of_bits binary64 m) && not (is_nan (of_bits binary64 m)))
  casts = rw nearest-is (and_i (fits binary32 (narrowed x)) (not (is_nan (narrowed x))) (narrow-fits x) number)

  pub no-nan-there : T (not (is_nan (of_bits binary64 m)))
  no-nan-there = rw nearest-is number

  pub word : to_bits binary32 (of_bits binary64 m) ≡ word_of Float32 x
  word = ap (to_bits binary32) nearest-is ∙ sym (ap (λ (t : Bool). cond t (to_bits binary32 (narrowed x)) 0) ok)

  -- ---- from 2^-126 on
  module _ (large : 897 < field) where
    abbrev z : Float
    z = sub binary64 (add binary64 x scaled) scaled

    scaled_value : HasValue scaled false (3 * 2 ^ 50 * 2 * 2 ^ (925 + (b / 2 ^ 52 - 897))) (2 ^ 1074)
    scaled_value =
        subst
        (λ (E : ℕ).
        HasValue (mul binary64 (of_bits binary64 (E * 2 ^ 52)) times) false
        (3 * 2 ^ 50 * 2 * 2 ^ (925 + (b / 2 ^ 52 - 897))) (2 ^ 1074))
        (sym field_is) (above (b / 2 ^ 52) few (omega (arith, field_is, large)))

    z-is : z ≡ narrowed x
    z-is =
        subst (λ (i : Float). sub binary64 (add binary64 i scaled) scaled ≡ narrowed i) own
        (is-nearest s b fine finite-own scaled scaled_value (omega (arith, field_is, large)))

    pub plain-casts : T (fits binary32 z && not (is_nan z))
    plain-casts = rw z-is (and_i (fits binary32 (narrowed x)) (not (is_nan (narrowed x))) (narrow-fits x) number)

    pub plain-no-nan : T (not (is_nan z))
    plain-no-nan = rw z-is number

    pub plain_word : to_bits binary32 z ≡ word_of Float32 x
    plain_word = ap (to_bits binary32) z-is ∙ sym (ap (λ (t : Bool). cond t (to_bits binary32 (narrowed x)) 0) ok)
