-- The remainder of a number that is not below the divisor, but below twice it, is their difference. If the rounded
-- difference were below the divisor and the exact one not, rounding would have reversed the order. Assumes nothing.
use Rattle.std.proofs.Common.{◌≡◌, ℕ, ◌+◌, ◌-◌, ◌*◌, ◌<◌, ◌≤◌, true, false, not, T, ℤ, sym, refl, ap, ◌∙◌, subst}
use Rattle.std.proofs.Common.{mul-le-mul_right, mod-eq_of_lt, mul_assoc, mul-pos, zero-mul, mul_right_comm, arith, lit<}
use Rattle.std.proofs.Common.{ltb→lt, nltb→le}
use mathlib.Core.Logic.{dite}
use native.Mathlib.Nat.{mod-eq-sub-mod}
use native.Mathlib.Decide.{dec_lt}
use lib.Ieee.{Float, nan, inf, fin, Format, binary64, up, down, round, neg, add, sub, rem, lt, le, fits}
use lib.Ieee.Fits.{down_pos}
use lib.Ieee.Exact.{HasValue}
use lib.Ieee.Order.{round_mono}
use Rattle.rounding.proofs.Adding.{minus}
use Rattle.rounding.proofs.Sums.{round-zero}
use Rattle.remainder.specs.Euclid as euclid
use Rattle.remainder.specs.Euclid.{rem_euclid}
use Rattle.rounding.proofs.RoundsToItself.{round-own}
use Rattle.remainder.proofs.Remainders.{rem-units}
use Rattle.remainder.proofs.AlreadyBelow.{apart, kept}

-- ---- below twice the divisor
record Once (f : Format) (x y : Float) : Type 0 where
  pub is : rem f x y ≡ sub f x y
  pub not_negative : T (le euclid.zero (sub f x y))

module _ (f : Format) (m : ℕ) (e : ℤ) (n : ℕ) (d : ℤ) where
  abbrev x : Float
  x = fin false m e

  abbrev y : Float
  y = fin false n d

  abbrev a : ℕ
  a = m * up e * down d

  abbrev b : ℕ
  b = n * up d * down e

  abbrev c : ℕ
  c = down e * down d

  above : 0 < c
  above = mul-pos (down_pos e) (down_pos d)

  first : HasValue x false a c
  first = (refl, sym (mul_assoc (m * up e) (down e) (down d)) ∙ mul_right_comm (m * up e) (down e) (down d))

  second : HasValue y false b c
  second = (refl, sym (mul_assoc (n * up d) (down e) (down d)))

  difference : b ≤ a → sub f x y ≡ round f false (a - b) c
  difference h = minus f x y a b c above h first second

  -- If x - y were not below y, its rounded value would not be either.
  twice : T (fits f y) → b ≤ a → T (lt (sub f x y) y) → a - b < b
  twice p h l = dite (dec_lt (a - b) b) (λ t. t) (λ t. absurd (apart y (sub f x y) (not-below (omega arith)) l))
    where
      not-below : b ≤ a - b → T (le y (sub f x y))
      not-below g =
          subst (λ (z : Float). T (le z (sub f x y))) (round-own f y false b c p above second)
          (subst (λ (z : Float). T (le (round f false b c) z)) (sym (difference h))
          (round_mono f b c (a - b) c above above (mul-le-mul_right c g)))

  once : T (fits f y) → 0 < b → b ≤ a → T (lt (sub f x y) y) → Once f x y
  once p B h l = record {
    is =
        rem-units f x y false false a b c above B first second
        ∙ ap (λ (z : ℕ). round f false z c) (mod-eq-sub-mod h ∙ mod-eq_of_lt (twice p h l))
        ∙ sym (difference h);
    not_negative =
        rw (difference h, ← round-zero f false 1 (lit< tt))
        (round_mono f 0 1 (a - b) c (lit< tt) above (omega (arith, zero-mul c)));
  }

some : (n : ℕ) (d e : ℤ) → T (lt euclid.zero (fin false n d)) → 0 < n * up d * down e
unfolding lt
some n d e z = mul-pos (omega (arith, ltb→lt (0 * 1 * down d) (n * up d * 1) z)) (down_pos e)

rem-once : (f : Format) (x y : Float) → T (fits f y) → T (lt euclid.zero y) → T (not (lt x y)) → T (lt (sub f x y) y)
    → Once f x y
unfolding lt sub add neg
rem-once f x nan p z h l = absurd z
rem-once f x (inf true) p z h l = absurd z
rem-once f nan (inf false) p z h l = absurd l
rem-once f (inf true) (inf false) p z h l = absurd h
rem-once f (inf false) (inf false) p z h l = absurd l
rem-once f (fin s m e) (inf false) p z h l = absurd h
rem-once f x (fin true n d) p z h l = absurd z
rem-once f nan (fin false n d) p z h l = absurd l
rem-once f (inf true) (fin false n d) p z h l = absurd h
rem-once f (inf false) (fin false n d) p z h l = absurd l
rem-once f (fin true m e) (fin false n d) p z h l =
    absurd (omega (arith, some n d e z, nltb→le 0 (m * up e * down d + n * up d * down e) h))
rem-once f (fin false m e) (fin false n d) p z h l =
    once f m e n d p (some n d e z) (nltb→le (m * up e * down d) (n * up d * down e) h) l

pub euclid-once : (x y : Float) → T (fits binary64 y) → T (lt euclid.zero y) → T (not (lt x y))
    → T (lt (sub binary64 x y) y) → rem_euclid x y ≡ sub binary64 x y
unfolding rem_euclid
euclid-once x y p z h l = let o = rem-once binary64 x y p z h l in rw (o.is, kept (sub binary64 x y) o.not_negative)
