-- The order of floats, as far as rates need it: a float is not equal to a greater one, and two floats that equal a
-- third are equal. Assumes nothing.
use mathlib.Core.Path.{◌≡◌, refl, sym}
use mathlib.Core.Bool.{Bool, true, false, true≢false, ◌&&◌, ◌||◌, beq}
use Prim.Native.Nat.{ℕ, ◌+◌, ◌*◌}
use native.Mathlib.Omega.{arith}
use borrow.Author.Tests.{ne_eqb, eq-eqb, eqb-true, ltb-true}
use lib.Dec.{T, T_not, eqb}
use lib.Ieee.{Float, nan, inf, fin, up, down, lt, le, eq, below, level}
use lib.Ieee.Bits.{is_true}
use lib.Ieee.Scale.{finite}
use Rattle.interval.proofs.Signed.{of-under, le-le, le-lt, lt→nle}
use Rattle.sinc_settings.specs.Ranges.{one-f, two-f}

pub of-true : (b : Bool) → b ≡ true → T b
of-true true h = tt
of-true false h = absurd (true≢false (sym h))

-- A float from 1 to 2 is finite, and so is one that is greater than a finite one and at most 2.
pub bounded : (x : Float) → le one-f x ≡ true → le x two-f ≡ true → T (finite x)
unfolding le
bounded nan a b = absurd (true≢false (sym a))
bounded (inf true) a b = absurd (true≢false (sym a))
bounded (inf false) a b = absurd (true≢false (sym b))
bounded (fin s m e) a b = tt

pub above-bounded : (x y : Float) → T (finite x) → lt x y ≡ true → le y two-f ≡ true → T (finite y)
unfolding lt le
above-bounded nan y p a b = absurd p
above-bounded (inf s) y p a b = absurd p
above-bounded (fin s m e) nan p a b = absurd (true≢false (sym a))
above-bounded (fin s m e) (inf true) p a b = absurd (true≢false (sym a))
above-bounded (fin s m e) (inf false) p a b = absurd (true≢false (sym b))
above-bounded (fin s m e) (fin t n d) p a b = tt

pub less-least : (x y : Float) → lt x y ≡ true → le x y ≡ true
unfolding le
less-least x y h = rw h

-- What is above a float that is not below 1 is not below 1.
pub below-bounded : (x y : Float) → le one-f x ≡ true → lt x y ≡ true → T (finite x)
unfolding lt le
below-bounded nan y a b = absurd (true≢false (sym a))
below-bounded (inf true) y a b = absurd (true≢false (sym a))
below-bounded (inf false) nan a b = absurd (true≢false (sym b))
below-bounded (inf false) (inf t) a b = absurd (true≢false (sym b))
below-bounded (inf false) (fin t n d) a b = absurd (true≢false (sym b))
below-bounded (fin s m e) y a b = tt

pub still-above : (x y : Float) → T (finite x) → le one-f x ≡ true → lt x y ≡ true → le one-f y ≡ true
unfolding lt le
still-above nan y p a b = absurd p
still-above (inf s) y p a b = absurd p
still-above (fin s m e) nan p a b = absurd (true≢false (sym b))
still-above (fin s m e) (inf true) p a b = absurd (true≢false (sym b))
still-above (fin s m e) (inf false) p a b = refl
still-above (fin s m e) (fin t n d) p a b =
    less-least one-f (fin t n d)
    (is_true _ (le-lt one-f (fin s m e) (fin t n d) tt tt tt (of-true (le one-f (fin s m e)) a)
    (of-true (lt (fin s m e) (fin t n d)) b)))

pub self-least : (x : Float) → T (finite x) → le x x ≡ true
self-least x p = is_true (le x x) (of-under x x p p (omega arith))

-- ---- a float is not equal to a greater one
apart : (s t : Bool) (a b : ℕ) → below s a t b ≡ true → level s a t b ≡ false
apart false false a b h = rw (ne_eqb a b (λ e. omega (arith, ltb-true a b h)))
apart false true a b h = absurd (true≢false (sym h))
apart true true a b h = rw (ne_eqb a b (λ e. omega (arith, ltb-true b a h)))
apart true false a b h = go (eqb a b) (eqb a 0) refl refl
  where
    go : (u v : Bool) → eqb a b ≡ u → eqb a 0 ≡ v → u && v ≡ false
    go true true p q = absurd (omega (arith, eqb-true a b p, eqb-true a 0 q, ltb-true 0 (a + b) h))
    go true false p q = refl
    go false v p q = refl

pub less-unequal : (x y : Float) → T (finite x) → T (finite y) → lt x y ≡ true → eq x y ≡ false
unfolding lt eq
less-unequal nan y p q h = absurd p
less-unequal (inf s) y p q h = absurd p
less-unequal (fin s m e) nan p q h = absurd q
less-unequal (fin s m e) (inf t) p q h = absurd q
less-unequal (fin s m e) (fin t n d) p q h = apart s t (m * up e * down d) (n * up d * down e) h

-- ---- two floats that equal a third are equal
turned : (s t : Bool) (a b : ℕ) → level s a t b ≡ true → level t b s a ≡ true
turned s t a b h = go (eqb a b) refl h
  where
    beq-turned : (s t : Bool) (v : Bool) → beq s t || v ≡ true → beq t s || v ≡ true
    beq-turned true true v h = refl
    beq-turned true false v h = h
    beq-turned false true v h = h
    beq-turned false false v h = refl

    go : (u : Bool) → eqb a b ≡ u → u && (beq s t || eqb a 0) ≡ true → level t b s a ≡ true
    go true e h = let l = eqb-true a b e in rw (← l, eq-eqb a a refl) (beq-turned s t (eqb a 0) h)
    go false e h = absurd (true≢false (sym h))

equal-turned : (x y : Float) → T (finite x) → T (finite y) → eq x y ≡ true → eq y x ≡ true
unfolding eq
equal-turned nan y p q h = absurd p
equal-turned (inf s) y p q h = absurd p
equal-turned (fin s m e) nan p q h = absurd q
equal-turned (fin s m e) (inf t) p q h = absurd q
equal-turned (fin s m e) (fin t n d) p q h = turned s t (m * up e * down d) (n * up d * down e) h

equal-least : (x y : Float) → eq x y ≡ true → T (le x y)
unfolding le
equal-least x y h = go (lt x y) (eq x y) h
  where
    go : (a b : Bool) → b ≡ true → T (a || b)
    go true b h = tt
    go false b h = of-true b h

-- A float that equals a finite one is finite.
equal-finite : (x y : Float) → T (finite y) → eq x y ≡ true → T (finite x)
unfolding eq
equal-finite nan y q h = absurd (true≢false (sym h))
equal-finite (inf s) nan q h = absurd q
equal-finite (inf s) (inf t) q h = absurd q
equal-finite (inf s) (fin t n d) q h = absurd (true≢false (sym h))
equal-finite (fin s m e) y q h = tt

pub equal-both : (x y z : Float) → T (finite y) → T (finite z) → eq x y ≡ true → eq x z ≡ true → eq y z ≡ true
unfolding le
equal-both x y z q r h k = go (lt y z) (eq y z) refl refl
  where
    go : (a b : Bool) → lt y z ≡ a → eq y z ≡ b → b ≡ true
    go a true u v = refl
    go true false u v =
        let p = equal-finite x y q h in
        absurd (T_not (le z y) (lt→nle y z q r (of-true (lt y z) u))
        (le-le z x y r p q (equal-least z x (equal-turned x z p r k)) (equal-least x y h)))
    go false false u v =
        let p = equal-finite x y q h in
        let t = le-le y x z q p r (equal-least y x (equal-turned x y p q h)) (equal-least x z k) in
        absurd (rw (u, v) at t)
