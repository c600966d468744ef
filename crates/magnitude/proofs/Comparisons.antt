-- The order of floats: it is total except for a NaN. And what it shows of the magnitudes of two numbers, each times the
-- other's denominator. Assumes nothing.
use mathlib.Core.Path.{◌≡◌, sym}
use mathlib.Core.Bool.{Bool, true, false, not, ◌&&◌, ◌||◌}
use mathlib.Core.Logic.{inl, inr}
use Prim.Native.Nat.{ℕ, ◌+◌, ◌*◌, ◌≤◌}
use native.Mathlib.Nat.{le_refl, le_of_eq, le_of_lt, le_trans, eq-or-lt_of_le, add_comm}
use native.Mathlib.Omega.{arith}
use lib.Dec.{T, ltb, eqb, ltb→lt, lt→ltb, nltb→le, eqb→eq}
use lib.Arith.{le→nltb}
use lib.IntN.{ℤ}
use lib.Ieee.{Float, nan, inf, fin, up, down, below, level, lt, eq, le, is_nan}
use lib.Ieee.Scale.{finite}
use lib.Ieee.Fits.{and_i, and_l, eq→eqb}

-- ---- one of two tests
or_l : (a b : Bool) → T a → T (a || b)
or_l true b t = tt
or_l false b t = absurd t

or_r : (a b : Bool) → T b → T (a || b)
or_r true b t = tt
or_r false b t = t

either : {P : Type 0} (a b : Bool) → (T a → P) → (T b → P) → T (a || b) → P
either true b f g t = f t
either false b f g t = g t

-- ---- ±a ≤ ±b
not_negative : (t : Bool) (a b : ℕ) → T (below false a t b || level false a t b) → a ≤ b
not_negative false a b h =
    either (ltb a b) (eqb a b && true) (λ l. le_of_lt (ltb→lt a b l))
    (λ q. le_of_eq (eqb→eq a b (and_l (eqb a b) true q))) h
not_negative true a b h = le_of_eq (eqb→eq a b (and_l (eqb a b) (eqb a 0) h))

negative : (s : Bool) (a b : ℕ) → T (below s a true b || level s a true b) → b ≤ a
negative false a b h = le_of_eq (sym (eqb→eq a b (and_l (eqb a b) (eqb a 0) h)))
negative true a b h =
    either (ltb b a) (eqb a b && true) (λ l. le_of_lt (ltb→lt b a l))
    (λ q. le_of_eq (sym (eqb→eq a b (and_l (eqb a b) true q)))) h

pub le-not-negative : (m : ℕ) (e : ℤ) (t : Bool) (n : ℕ) (d : ℤ) → T (le (fin false m e) (fin t n d))
    → m * up e * down d ≤ n * up d * down e
unfolding le
le-not-negative m e t n d = not_negative t (m * up e * down d) (n * up d * down e)

pub le-negative : (s : Bool) (m : ℕ) (e : ℤ) (n : ℕ) (d : ℤ) → T (le (fin s m e) (fin true n d))
    → n * up d * down e ≤ m * up e * down d
unfolding le
le-negative s m e n d = negative s (m * up e * down d) (n * up d * down e)

-- ---- any two numbers are in order, one way or the other
zeros : (a b : ℕ) → a + b ≤ 0 → T (eqb a b && eqb a 0)
zeros a b h =
    let p : a ≡ 0 = omega arith in
    let q : b ≡ 0 = omega arith in
    rw (p, q) tt

upward : (s t : Bool) (a b : ℕ) → T (not (below t b s a)) → T (below s a t b || level s a t b)
upward false false a b h = elim (eq-or-lt_of_le (nltb→le b a h)) [
  | inl p ↦ or_r (ltb a b) (eqb a b && true) (and_i (eqb a b) true (eq→eqb p) tt)
  | inr l ↦ or_l (ltb a b) (eqb a b && true) (lt→ltb a b l)
]
upward false true a b h = zeros a b (le_trans (le_of_eq (add_comm a b)) (nltb→le 0 (b + a) h))
upward true false a b h = go (ltb 0 (a + b)) (nltb→le 0 (a + b))
  where
    go : (u : Bool) → (T (not u) → a + b ≤ 0) → T (u || (eqb a b && eqb a 0))
    go true l = tt
    go false l = zeros a b (l tt)
upward true true a b h = elim (eq-or-lt_of_le (nltb→le a b h)) [
  | inl p ↦ or_r (ltb b a) (eqb a b && true) (and_i (eqb a b) true (eq→eqb (sym p)) tt)
  | inr l ↦ or_l (ltb b a) (eqb a b && true) (lt→ltb b a l)
]

pub nlt→le : (x y : Float) → T (not (is_nan x)) → T (not (is_nan y)) → T (not (lt y x)) → T (le x y)
unfolding le lt is_nan
nlt→le nan y p q h = absurd p
nlt→le (inf s) nan p q h = absurd q
nlt→le (inf true) (inf true) p q h = tt
nlt→le (inf true) (inf false) p q h = tt
nlt→le (inf false) (inf true) p q h = absurd h
nlt→le (inf false) (inf false) p q h = tt
nlt→le (inf true) (fin t n d) p q h = tt
nlt→le (inf false) (fin t n d) p q h = absurd h
nlt→le (fin s m e) nan p q h = absurd q
nlt→le (fin s m e) (inf true) p q h = absurd h
nlt→le (fin s m e) (inf false) p q h = tt
nlt→le (fin s m e) (fin t n d) p q h = upward s t (m * up e * down d) (n * up d * down e) h

pub le_itself : (x : Float) → T (not (is_nan x)) → T (le x x)
unfolding lt is_nan
le_itself nan p = absurd p
le_itself (inf true) p = nlt→le (inf true) (inf true) p p tt
le_itself (inf false) p = nlt→le (inf false) (inf false) p p tt
le_itself (fin true m e) p =
    nlt→le (fin true m e) (fin true m e) p p
    (le→nltb (m * up e * down e) (m * up e * down e) (le_refl (m * up e * down e)))
le_itself (fin false m e) p =
    nlt→le (fin false m e) (fin false m e) p p
    (le→nltb (m * up e * down e) (m * up e * down e) (le_refl (m * up e * down e)))

pub lt→le : (x y : Float) → T (lt x y) → T (le x y)
unfolding le
lt→le x y h = or_l (lt x y) (eq x y) h

-- ---- not a NaN
pub finite_number : (x : Float) → T (finite x) → T (not (is_nan x))
unfolding is_nan
finite_number nan h = h
finite_number (inf s) h = tt
finite_number (fin s m e) h = tt

pub le-numbers : (x y : Float) → T (le x y) → T (not (is_nan x)) × T (not (is_nan y))
unfolding le is_nan
le-numbers nan y h = absurd h
le-numbers (inf s) nan h = absurd h
le-numbers (inf s) (inf t) h = (tt, tt)
le-numbers (inf s) (fin t n d) h = (tt, tt)
le-numbers (fin s m e) nan h = absurd h
le-numbers (fin s m e) (inf t) h = (tt, tt)
le-numbers (fin s m e) (fin t n d) h = (tt, tt)
