-- What the patterns and the tests of the step show. Assumes nothing.
use mathlib.Core.Path.{◌≡◌, refl, sym, ap, ◌∙◌, subst}
use mathlib.Core.Bool.{Bool, true, false, not, cond, false≢true}
use Prim.Native.Nat.{ℕ, ◌+◌, ◌*◌, ◌/◌, ◌%◌, ◌^◌, ◌≤◌, ◌<◌}
use native.Mathlib.Nat.{le_trans, le_of_eq}
use native.Mathlib.Omega.{arith}
use lib.Dec.{T, leb, leb→le, lit<}
use lib.Ieee.{Float, nan, inf, fin, binary64, fits, of_bits, to_bits, nan_bits, is_nan, lt, eq, le}
use lib.Ieee.Bits.{to_bits-lt}
use lib.Ieee.Scale.{finite}
use Rattle.rounding.proofs.Patterns.{rest-is, sign-rest, no-nan-rest, rest-no-nan, value-bits}
use Rattle.rounding_error.specs.Fraction.{Within, nil}
use Rattle.rounding_error.specs.Value.{val}
use Rattle.rounding_error.proofs.Compare.{side, le_is}
use Rattle.rounding_error.proofs.Value.{val_pos}
use Rattle.near_fused.specs.Parts.{lower, top}
use Rattle.near_fused.specs.Step.{inside_of, ordered_of}

-- Neither x nor y is a NaN.
pub record Ordered (x y : Float) : Type 0 where
  pub first : T (not (is_nan x))
  pub second : T (not (is_nan y))

-- The factor lies from 0 to 1.
pub record Inside (mu : Float) : Type 0 where
  pub low : le (of_bits binary64 0) mu ≡ true
  pub high : le mu top ≡ true

moved : (n r : ℕ) (b : Bool) → n ≡ cond b (2 ^ 63) 0 + r
    → n / 2 ^ lower * 2 ^ lower ≡ cond b (2 ^ 63) 0 + r / 2 ^ lower * 2 ^ lower
moved n r true w = omega arith
moved n r false w = omega arith

module _ (x : Float) (h : T (fits binary64 x)) (k : T (not (is_nan x))) where
  abbrev n : ℕ
  n = to_bits binary64 x

  word : n < 2 ^ 64
  word = to_bits-lt binary64 x h

  rest : n % 2 ^ 63 ≤ 0x7ff0_0000_0000_0000
  rest = no-nan-rest binary64 n (value-bits binary64 x h k)

  pub cut_word : n / 2 ^ lower * 2 ^ lower % 2 ^ 64 ≡ n / 2 ^ lower * 2 ^ lower
  cut_word = let w = word in omega arith

  pub cut-no-nan : T (not (nan_bits binary64 (n / 2 ^ lower * 2 ^ lower % 2 ^ 64)))
  cut-no-nan =
      rest-no-nan binary64 (n / 2 ^ lower * 2 ^ lower % 2 ^ 64)
      (rw cut_word (beneath n (n % 2 ^ 63) (leb (2 ^ 63) n) (sign-rest binary64 n word) rest))
    where
      beneath : (n r : ℕ) (b : Bool) → n ≡ cond b (2 ^ 63) 0 + r → r ≤ 0x7ff0_0000_0000_0000
          → n / 2 ^ lower * 2 ^ lower % 2 ^ 63 ≤ 0x7ff0_0000_0000_0000
      beneath n r b w h =
          let t = r / 2 ^ lower * 2 ^ lower in
          let k : t ≤ r = omega arith in
          le_trans (le_of_eq (ap (λ (z : ℕ). z % 2 ^ 63) (moved n r b w) ∙ rest-is binary64 b t (omega arith)))
          (omega arith)

  pub size-no-nan : T (not (nan_bits binary64 (n % 2 ^ 63)))
  size-no-nan = let w = word in let r = rest in rest-no-nan binary64 (n % 2 ^ 63) (omega arith)

pub le-ordered : (x y : Float) → le x y ≡ true → Ordered x y
unfolding le lt eq is_nan
le-ordered nan y e = absurd (subst T (sym e) tt)
le-ordered (inf s) nan e = absurd (subst T (sym e) tt)
le-ordered (inf s) (inf t) e = record { first = tt; second = tt }
le-ordered (inf s) (fin t n d) e = record { first = tt; second = tt }
le-ordered (fin s m e) nan p = absurd (subst T (sym p) tt)
le-ordered (fin s m e) (inf t) p = record { first = tt; second = tt }
le-ordered (fin s m e) (fin t n d) p = record { first = tt; second = tt }

pub lt-ordered : (x y : Float) → lt y x ≡ true → Ordered x y
unfolding lt is_nan
lt-ordered x nan e = absurd (subst T (sym e) tt)
lt-ordered nan (inf t) e = absurd (subst T (sym e) tt)
lt-ordered (inf s) (inf t) e = record { first = tt; second = tt }
lt-ordered (fin s m d) (inf t) e = record { first = tt; second = tt }
lt-ordered nan (fin t n d) e = absurd (subst T (sym e) tt)
lt-ordered (inf s) (fin t n d) e = record { first = tt; second = tt }
lt-ordered (fin s m i) (fin t n d) e = record { first = tt; second = tt }

pub ordered-is : (x y : Float) → ordered_of x y ≡ true → Ordered x y
ordered-is x y e = go (le x y) refl e
  where
    go : (b : Bool) → le x y ≡ b → cond b true (lt y x) ≡ true → Ordered x y
    go true h e = le-ordered x y h
    go false h e = lt-ordered x y e

pub inside_is : (x : Float) → inside_of x ≡ true → Inside x
inside_is x e = go (le x top) refl e
  where
    go : (b : Bool) → le x top ≡ b → cond b (le (of_bits binary64 0) x) false ≡ true → Inside x
    go true h e = record { low = e; high = h }
    go false h e = absurd (false≢true e)

-- A number from 0 to 1 is finite and at most 1.
pub inside-no-nan : (x : Float) → Inside x → T (not (is_nan x))
inside-no-nan x h = (le-ordered x top h.high).first

pub inside-size : (x : Float) → T (finite x) → Inside x → Within 1 1 (val x) nil
unfolding of_bits
inside-size x f h =
    let zero = of_bits binary64 0 in
    let a =
    leb→le (side (val x) (val top)) (side (val top) (val x))
    (subst T (sym (sym (le_is x top f tt) ∙ h.high)) tt) in
    let b =
    leb→le (side (val zero) (val x)) (side (val x) (val zero))
    (subst T (sym (sym (le_is zero x tt f) ∙ h.low)) tt) in
    record { left = val_pos x; right = lit< tt; above = omega (arith, val_pos x); below = omega (arith, val_pos x) }
