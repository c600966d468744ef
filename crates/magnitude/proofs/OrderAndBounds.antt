-- The order of floats and `AtMost`: what lies between two numbers of magnitude at most b has magnitude at most b
-- itself, and such a number lies between -b and b. Assumes nothing.
use mathlib.Core.Path.{◌≡◌, sym, ap, ◌∙◌, subst}
use mathlib.Core.Bool.{Bool, true, false, cond, ◌&&◌}
use Prim.Native.Nat.{ℕ, ◌+◌, ◌*◌, ◌≤◌, ◌<◌}
use native.Mathlib.Omega.{arith}
use native.Mathlib.Nat.{le_trans, le_of_eq, lt_of_le_of_lt, lt_of_lt_of_le, le_refl, mul_right_comm, mul-one}
use native.Mathlib.Nat.{mul-le-mul_right, mul-lt-mul_of_pos_right, le_of_mul-le-mul_right}
use lib.Dec.{T, lt→ltb}
use lib.Arith.{le→nltb}
use lib.IntN.{ℤ}
use lib.Ieee.{Float, nan, inf, fin, up, down, lt, le, is_nan}
use lib.Ieee.Fits.{down_pos, and_l, and_r}
use denote.Floats.{passes}
use lib.Ieee.Exact.{HasValue}
use lib.Ieee.Scale.{finite}
use Rattle.magnitude.specs.Bounds.{AtMost}
use Rattle.magnitude.proofs.Comparisons.{nlt→le, le-not-negative, le-negative}

-- ---- the bound alone
pub at-most-finite : (b : ℕ) (x : Float) → AtMost b x → T (finite x)
at-most-finite b nan h = h
at-most-finite b (inf s) h = h
at-most-finite b (fin s m e) h = tt

pub at-most-mono : {a b : ℕ} (x : Float) → a ≤ b → AtMost a x → AtMost b x
at-most-mono nan l h = h
at-most-mono (inf s) l h = h
at-most-mono (fin s m e) l h = le_trans h (mul-le-mul_right (down e) l)

-- If x / p ≤ y / q ≤ b then x / p ≤ b.
through : (x p y q b : ℕ) → 0 < q → x * q ≤ y * p → y ≤ b * q → x ≤ b * p
through x p y q b Q h k =
    le_of_mul-le-mul_right (le_trans h (le_trans (mul-le-mul_right p k) (le_of_eq (mul_right_comm b q p)))) Q

pub value-at-most : (b : ℕ) (x : Float) (s : Bool) (a c : ℕ) → 0 < c → HasValue x s a c → a ≤ b * c → AtMost b x
value-at-most b nan s a c C v h = v
value-at-most b (inf t) s a c C v h = v
value-at-most b (fin t m e) s a c C v h = through (m * up e) (down e) a c b C (le_of_eq v.1) h

-- ---- from two tests to the bound
pub between-at-most : (b : ℕ) (low x high : Float) → AtMost b low → AtMost b high → T (le low x) → T (le x high)
    → AtMost b x
unfolding le
between-at-most b nan x high p q h k = absurd p
between-at-most b (inf s) x high p q h k = absurd p
between-at-most b (fin s n d) x nan p q h k = absurd q
between-at-most b (fin s n d) x (inf t) p q h k = absurd q
between-at-most b (fin s n d) nan (fin t l g) p q h k = h
between-at-most b (fin s n d) (inf true) (fin t l g) p q h k = h
between-at-most b (fin s n d) (inf false) (fin t l g) p q h k = k
between-at-most b (fin s n d) (fin false m e) (fin t l g) p q h k =
    through (m * up e) (down e) (l * up g) (down g) b (down_pos g) (le-not-negative m e t l g k) q
between-at-most b (fin s n d) (fin true m e) (fin t l g) p q h k =
    through (m * up e) (down e) (n * up d) (down d) b (down_pos d) (le-negative s n d m e h) p

pub within-at-most : (b : ℕ) (low x high : Float) → AtMost b low → AtMost b high → (le low x && le x high) ≡ true
    → AtMost b x
within-at-most b low x high p q h =
    let both = passes (le low x && le x high) h in
    between-at-most b low x high p q (and_l (le low x) (le x high) both) (and_r (le low x) (le x high) both)

-- ---- from the bound to a test against ±b: x / p ≤ a, and y / q is b
cross : (x p a y q b : ℕ) → x ≤ a * p → y * 1 ≡ b * q → a ≤ b → x * q ≤ y * p
cross x p a y q b h v l =
    le_trans (mul-le-mul_right q (le_trans h (mul-le-mul_right p l)))
    (le_of_eq (mul_right_comm b p q ∙ ap (λ (z : ℕ). z * p) (sym v ∙ mul-one y)))

cross-lt : (x p a y q b : ℕ) → 0 < p → 0 < q → x ≤ a * p → y * 1 ≡ b * q → a < b → x * q < y * p
cross-lt x p a y q b P Q h v l =
    lt_of_lt_of_le (mul-lt-mul_of_pos_right (lt_of_le_of_lt h (mul-lt-mul_of_pos_right l P)) Q)
    (le_of_eq (mul_right_comm b p q ∙ ap (λ (z : ℕ). z * p) (sym v ∙ mul-one y)))

inside : (s t : Bool) (m : ℕ) (e : ℤ) (n : ℕ) (d : ℤ) → m * up e * down d ≤ n * up d * down e
    → T (cond t (le (fin t n d) (fin s m e)) (le (fin s m e) (fin t n d)))
unfolding lt is_nan
inside false false m e n d h =
    nlt→le (fin false m e) (fin false n d) tt tt (le→nltb (n * up d * down e) (m * up e * down d) h)
inside false true m e n d h = nlt→le (fin true n d) (fin false m e) tt tt tt
inside true false m e n d h = nlt→le (fin true m e) (fin false n d) tt tt tt
inside true true m e n d h =
    nlt→le (fin true n d) (fin true m e) tt tt (le→nltb (n * up d * down e) (m * up e * down d) h)

strictly : (s t : Bool) (m : ℕ) (e : ℤ) (n : ℕ) (d : ℤ) → m * up e * down d < n * up d * down e
    → T (cond t (lt (fin t n d) (fin s m e)) (lt (fin s m e) (fin t n d)))
unfolding lt
strictly false false m e n d h = lt→ltb (m * up e * down d) (n * up d * down e) h
strictly false true m e n d h = lt→ltb 0 (n * up d * down e + m * up e * down d) (omega arith)
strictly true false m e n d h = lt→ltb 0 (m * up e * down d + n * up d * down e) (omega arith)
strictly true true m e n d h = lt→ltb (m * up e * down d) (n * up d * down e) h

at-most-inside : (b : ℕ) (x y : Float) (t : Bool) → HasValue y t b 1 → AtMost b x → T (cond t (le y x) (le x y))
at-most-inside b x nan t v h = absurd v
at-most-inside b x (inf u) t v h = absurd v
at-most-inside b nan (fin u n d) t v h = absurd h
at-most-inside b (inf s) (fin u n d) t v h = absurd h
at-most-inside b (fin s m e) (fin u n d) t v h =
    subst (λ (t : Bool). T (cond t (le (fin u n d) (fin s m e)) (le (fin s m e) (fin u n d)))) v.0
    (inside s u m e n d (cross (m * up e) (down e) b (n * up d) (down d) b h v.1 (le_refl b)))

at-most-strictly : (a b : ℕ) (x y : Float) (t : Bool) → a < b → HasValue y t b 1 → AtMost a x
    → T (cond t (lt y x) (lt x y))
at-most-strictly a b x nan t l v h = absurd v
at-most-strictly a b x (inf u) t l v h = absurd v
at-most-strictly a b nan (fin u n d) t l v h = absurd h
at-most-strictly a b (inf s) (fin u n d) t l v h = absurd h
at-most-strictly a b (fin s m e) (fin u n d) t l v h =
    subst (λ (t : Bool). T (cond t (lt (fin u n d) (fin s m e)) (lt (fin s m e) (fin u n d)))) v.0
    (strictly s u m e n d (cross-lt (m * up e) (down e) a (n * up d) (down d) b (down_pos e) (down_pos d) h v.1 l))

pub at-most-le : (b : ℕ) (x y : Float) → HasValue y false b 1 → AtMost b x → T (le x y)
at-most-le b x y = at-most-inside b x y false

pub at-most-ge : (b : ℕ) (x y : Float) → HasValue y true b 1 → AtMost b x → T (le y x)
at-most-ge b x y = at-most-inside b x y true

pub at-most-lt : (a b : ℕ) (x y : Float) → a < b → HasValue y false b 1 → AtMost a x → T (lt x y)
at-most-lt a b x y = at-most-strictly a b x y false

pub at-most-gt : (a b : ℕ) (x y : Float) → a < b → HasValue y true b 1 → AtMost a x → T (lt y x)
at-most-gt a b x y = at-most-strictly a b x y true
