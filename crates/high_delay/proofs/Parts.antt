-- What a float's sign, its negation and its fraction of whole numbers are, for the range of a phase's delay. Assumes
-- nothing.
use Rattle.std.proofs.Common.{◌≡◌, ℕ, ◌+◌, ◌*◌, ◌^◌, ◌≤◌, Bool, true, false, T, ◌⊎◌, sym, refl, ap, inl, inr, arith}
use lib.Ieee.{Float, nan, inf, fin, Format, up, down, neg, fits}
use lib.Ieee.Fits.{down_pos}
use lib.Ieee.Positive.{den}
use lib.Ieee.Scale.{finite}
use Rattle.rounding.proofs.RoundsToItself.{round-own}
use Rattle.rounding_error.specs.Value.{val, signed}
use Rattle.interval.proofs.Signed.{ring, plus, less, gain, loss}
use Rattle.interval.proofs.Operations.{Rounds}

-- A value of the format is one rounding of itself.
pub own : (f : Format) (x : Float) → T (fits f x) → T (finite x) → Rounds f x (gain x) (loss x) (den x)
own f nan h p = absurd p
own f (inf s) h p = absurd p
own f (fin s m e) h p = record {
  sign = s;
  size = m * up e;
  is = sym (round-own f (fin s m e) s (m * up e) (down e) h (down_pos e) (refl, refl));
  same = omega arith;
}

-- A negated number has the two parts exchanged.
pub turned : (x : Float) → (gain (neg x) ≡ loss x) × (loss (neg x) ≡ gain x) × (den (neg x) ≡ den x)
unfolding neg
turned nan = (refl, refl, refl)
turned (inf s) = (refl, refl, refl)
turned (fin true m e) = (refl, refl, refl)
turned (fin false m e) = (refl, refl, refl)

pub neg-finite : (x : Float) → T (finite x) → T (finite (neg x))
unfolding neg
neg-finite nan p = p
neg-finite (inf s) p = p
neg-finite (fin s m e) p = tt

-- A float is not below zero, or not above it.
pub sided : (x : Float) → (loss x ≡ 0) ⊎ (gain x ≡ 0)
sided nan = inl refl
sided (inf s) = inl refl
sided (fin true m e) = inr refl
sided (fin false m e) = inl refl

-- The parts of a value as a fraction, and of a signed fraction.
pub valued : (x : Float) → T (finite x) → ((val x).p ≡ gain x) × ((val x).n ≡ loss x) × ((val x).d ≡ den x)
valued nan h = absurd h
valued (inf s) h = absurd h
valued (fin true m e) h = (refl, refl, refl)
valued (fin false m e) h = (refl, refl, refl)

pub split : (s : Bool) (a c : ℕ)
    → ((signed s a c).p ≡ plus s a) × ((signed s a c).n ≡ less s a) × ((signed s a c).d ≡ c)
split true a c = (refl, refl, refl)
split false a c = (refl, refl, refl)

-- A signed size is at most the larger of two numbers whose difference it is.
pub part : (s : Bool) (P N size B : ℕ) → P + less s size ≡ N + plus s size → P ≤ B → N ≤ B → size ≤ B
part true P N size B h p n = omega arith
part false P N size B h p n = omega arith

-- The error of a difference, in units of 2^-20.
pub scaled : (ge le de c L U gd dp gp dd : ℕ)
    → 2 ^ 53 * 2 * (ge * c + L * de) ≤ 2 ^ 53 * 2 * (U * de + le * c) + 2 ^ 34 * (de * c)
    → gd * dp + 0 * dd + L ≡ 0 * dp + gp * dd + U
    → 1048576 * (ge * c + gp * (dd * de)) ≤ 1048576 * (gd * (dp * de) + le * c) + de * c
scaled ge le de c L U gd dp gp dd h g = omega (arith, simp ring at h, simp ring at (ap (λ (z : ℕ). z * de) g))
