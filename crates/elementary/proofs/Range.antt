-- E3. Two comparisons show whether a magnitude is at most 2 ^ k; a NaN and the infinities fail them. And an answer is
-- made of its value, or a refusal. Assumes nothing.
use Rattle.std.specs.Prelude.{Ok, Err}
use Rattle.refusal.specs.declared.Refusal.TheVariants.{Setting}
use mathlib.Core.Path.{◌≡◌, refl, subst}
use mathlib.Core.Bool.{Bool, true, false, ◌&&◌, cond}
use Prim.Native.Nat.{ℕ, ◌*◌, ◌^◌, ◌≤◌}
use native.Mathlib.Omega.{arith}
use lib.IntN.{ℤ, pos}
use lib.Dec.{leb, leb→le, le→leb}
use lib.Ieee.{Float, nan, inf, fin, binary64, up, down, neg, le, of_bits}
use lib.Ieee.Fits.{and_l, and_r, and_i}
use Rattle.rounding.proofs.NumberOrders.{same_test}
use Rattle.rounding_error.specs.Fraction.{Frac, frac}
use Rattle.rounding_error.specs.Value.{signed}
use Rattle.rounding_error.proofs.Compare.{side, le_is}
use Rattle.polynomials.specs.Range.{at_most}
use Rattle.elementary.specs.Answers.{refusal_of, or_zero, sine_at, cosine_at, power_at, sine_of, cosine_of, exp2_of}
use Rattle.elementary.specs.Close.{Each}

both : (a b c d m n : ℕ) → (a ≤ b → c ≤ d → m ≤ n) → (m ≤ n → (a ≤ b) × (c ≤ d)) → leb a b && leb c d ≡ leb m n
both a b c d m n f g =
    same_test (leb a b && leb c d) (leb m n)
    (λ t. le→leb m n (f (leb→le a b (and_l (leb a b) (leb c d) t)) (leb→le c d (and_r (leb a b) (leb c d) t))))
    (λ t. let h = g (leb→le m n t) in and_i (leb a b) (leb c d) (le→leb a b h.0) (le→leb c d h.1))

-- The value lies from -t to t.
span : (s : Bool) (a c t : ℕ)
    → leb (side (frac 0 (1 * t) 1) (signed s a c)) (side (signed s a c) (frac 0 (1 * t) 1))
    && leb (side (signed s a c) (frac (1 * t) 0 1)) (side (frac (1 * t) 0 1) (signed s a c))
    ≡ leb a (t * c)
span s a c t =
    both (side m (signed s a c)) (side (signed s a c) m) (side (signed s a c) p) (side p (signed s a c)) a (t * c)
    (in_one s) (in_both s)
  where
    p : Frac
    p = frac (1 * t) 0 1

    m : Frac
    m = frac 0 (1 * t) 1

    in_one : (s : Bool) → side m (signed s a c) ≤ side (signed s a c) m → side (signed s a c) p ≤ side p (signed s a c)
        → a ≤ t * c
    in_one false h k = omega arith
    in_one true h k = omega arith

    in_both : (s : Bool) → a ≤ t * c
        → (side m (signed s a c) ≤ side (signed s a c) m) × (side (signed s a c) p ≤ side p (signed s a c))
    in_both false h = omega arith
    in_both true h = omega arith

inside-finite : (k : ℕ) (s : Bool) (m : ℕ) (e : ℤ)
    → le (fin true 1 (pos k)) (fin s m e) && le (fin s m e) (fin false 1 (pos k)) ≡ leb (m * up e) (2 ^ k * down e)
inside-finite k s m e =
    rw (le_is (fin true 1 (pos k)) (fin s m e) tt tt, le_is (fin s m e) (fin false 1 (pos k)) tt tt)
    (span s (m * up e) (down e) (2 ^ k))

pub inside_is : (k : ℕ) (x : Float) → le (neg (fin false 1 (pos k))) x && le x (fin false 1 (pos k)) ≡ at_most (2 ^ k) x
unfolding le neg
inside_is k nan = refl
inside_is k (inf true) = refl
inside_is k (inf false) = refl
inside_is k (fin s m e) = inside-finite k s m e

-- ---- answers
pub given : {v w : Float} {P : Float → Type 0} (b : Bool) → b ≡ true → v ≡ w → P v
    → (Ok v ≡ cond b (Ok w) (Err Setting)) × Each (Ok v) P
given {v} {P = P} b t e p = (rw (t, e), record { each = λ u q. let s : v ≡ u = cc in subst P s p })

pub refused : {P : Float → Type 0} (b : Bool) (w : Float) → b ≡ false
    → (Err Setting ≡ cond b (Ok w) (Err Setting)) × Each (Err Setting) P
refused b w t = (rw t, record { each = λ u q. let e : ◌≡◌ {A = ℕ} 0 1 = cc in absurd (omega arith) })

-- ---- values
pub value-given : {v w : Float} (b : Bool) → b ≡ true → v ≡ w → v ≡ or_zero (cond b (Ok w) (Err Setting))
value-given b t e = rw (t, e)

pub value-refused : (b : Bool) (w : Float) → b ≡ false → of_bits binary64 0 ≡ or_zero (cond b (Ok w) (Err Setting))
value-refused b w t = rw t

-- ---- exactly when the refusal is 1
refusal : (b : Bool) (v : Float) → refusal_of (cond b (Ok v) (Err Setting)) ≡ cond b 0 1
refusal true v = refl
refusal false v = refl

pub sine-refuses : (x : Float) → refusal_of (sine_of x) ≡ cond (at_most 256 x) 0 1
unfolding sine_of
sine-refuses x = refusal (at_most 256 x) (sine_at x)

pub cosine-refuses : (x : Float) → refusal_of (cosine_of x) ≡ cond (at_most 256 x) 0 1
unfolding cosine_of
cosine-refuses x = refusal (at_most 256 x) (cosine_at x)

pub exp2-refuses : (x : Float) → refusal_of (exp2_of x) ≡ cond (at_most 1 x) 0 1
unfolding exp2_of
exp2-refuses x = refusal (at_most 1 x) (power_at x)
