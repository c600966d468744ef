-- Two finite floats compare as their values do: x < y exactly if x.p * y.d + y.n * x.d < y.p * x.d + x.n * y.d,
-- and likewise for ≤. By the cases of the signs; the sign of a zero does not count. Assumes nothing.
use mathlib.Core.Path.{◌≡◌, sym, ap, ◌∙◌}
use mathlib.Core.Bool.{Bool, true, false, not, ◌&&◌, ◌||◌}
use Prim.Native.Nat.{ℕ, ◌+◌, ◌*◌, ◌≤◌, ◌<◌}
use native.Mathlib.Nat.{zero-mul, zero-add, add-zero, add_comm, mul-lt-mul_of_pos_right, mul-le-mul_right}
use native.Mathlib.Nat.{lt_of_mul-lt-mul_right, le_of_mul-le-mul_right}
use native.Mathlib.Omega.{arith}
use borrow.Author.Tests.{ltb-true, ltb-false, le-ltb}
use lib.Dec.{T, leb, ltb, eqb, leb→le, le→leb, ltb→lt, nltb→le, eqb→eq}
use lib.Ieee.{Float, nan, inf, fin, up, down, below, level, lt, le}
use lib.Ieee.Fits.{and_l, and_r, and_i, eq→eqb}
use lib.Ieee.Scale.{finite}
use Rattle.rounding.proofs.NumberOrders.{same_test}
use Rattle.rounding_error.specs.Fraction.{Frac}
use Rattle.rounding_error.specs.Value.{signed, val, Is}

-- x - y, multiplied by both denominators, is side x y - side y x.
abbrev pub side : Frac → Frac → ℕ
side x y = x.p * y.d + y.n * x.d

below-is : (s t : Bool) (a c b d : ℕ)
    → below s (a * d) t (b * c) ≡ ltb (side (signed s a c) (signed t b d)) (side (signed t b d) (signed s a c))
below-is false false a c b d = simp (zero-mul, add-zero)
below-is false true a c b d = sym (le-ltb (a * d + b * c) (0 * c + 0 * d) (omega arith))
below-is true false a c b d = simp (zero-mul, add_comm)
below-is true true a c b d = simp (zero-mul, zero-add)

pub lt-is : (x y : Float) → T (finite x) → T (finite y) → lt x y ≡ ltb (side (val x) (val y)) (side (val y) (val x))
unfolding lt
lt-is nan y h k = absurd h
lt-is (inf s) y h k = absurd h
lt-is (fin s m e) nan h k = absurd k
lt-is (fin s m e) (inf t) h k = absurd k
lt-is (fin s m e) (fin t n d) h k = below-is s t (m * up e) (down e) (n * up d) (down d)

-- ---- below, or equal
less-or : (a b : ℕ) (u : Bool) → (T u → a ≡ b) → (a ≡ b → T u) → ltb a b || (u && true) ≡ leb a b
less-or a b u f g =
    same_test (ltb a b || (u && true)) (leb a b) (λ t. le→leb a b (out (ltb a b) u (ltb→lt a b) f t))
    (λ t. go (ltb a b) (nltb→le a b) (leb→le a b t))
  where
    out : (p u : Bool) → (T p → a < b) → (T u → a ≡ b) → T (p || (u && true)) → a ≤ b
    out true u f g t = omega (arith, f tt)
    out false true f g t = omega (arith, g tt)
    out false false f g t = absurd t

    go : (p : Bool) → (T (not p) → b ≤ a) → a ≤ b → T (p || (u && true))
    go true n l = tt
    go false n l = and_i u true (g (omega (arith, n tt))) tt

zeros : (a b : ℕ) → a + b ≤ 0 → T (eqb a b && eqb a 0)
zeros a b l =
    let p : a ≡ b = omega arith in let q : a ≡ 0 = omega arith in and_i (eqb a b) (eqb a 0) (eq→eqb p) (eq→eqb q)

both_zero : (a b : ℕ) → eqb a b && eqb a 0 ≡ leb (a + b) 0
both_zero a b =
    same_test (eqb a b && eqb a 0) (leb (a + b) 0) (λ t. le→leb (a + b) 0
    (omega (arith, eqb→eq a b (and_l (eqb a b) (eqb a 0) t), eqb→eq a 0 (and_r (eqb a b) (eqb a 0) t))))
    (λ t. zeros a b (leb→le (a + b) 0 t))

some-or-zero : (a b : ℕ) → ltb 0 (a + b) || (eqb a b && eqb a 0) ≡ leb 0 (a + b)
some-or-zero a b =
    same_test (ltb 0 (a + b) || (eqb a b && eqb a 0)) (leb 0 (a + b)) (λ t. le→leb 0 (a + b) (omega arith))
    (λ t. go (ltb 0 (a + b)) (nltb→le 0 (a + b)))
  where
    go : (p : Bool) → (T (not p) → a + b ≤ 0) → T (p || (eqb a b && eqb a 0))
    go true n = tt
    go false n = zeros a b (n tt)

at-most-is : (s t : Bool) (a c b d : ℕ)
    → below s (a * d) t (b * c) || level s (a * d) t (b * c)
    ≡ leb (side (signed s a c) (signed t b d)) (side (signed t b d) (signed s a c))
at-most-is false false a c b d =
    simp (zero-mul, add-zero) (less-or (a * d) (b * c) (eqb (a * d) (b * c)) (eqb→eq (a * d) (b * c)) eq→eqb)
at-most-is false true a c b d = simp (zero-mul, add-zero) (both_zero (a * d) (b * c))
at-most-is true false a c b d = simp (zero-mul, add-zero) (rw (add_comm (b * c) (a * d)) (some-or-zero (a * d) (b * c)))
at-most-is true true a c b d =
    simp (zero-mul, zero-add)
    (less-or (b * c) (a * d) (eqb (a * d) (b * c)) (λ t. sym (eqb→eq (a * d) (b * c) t)) (λ e. eq→eqb (sym e)))

pub le_is : (x y : Float) → T (finite x) → T (finite y) → le x y ≡ leb (side (val x) (val y)) (side (val y) (val x))
unfolding le
le_is nan y h k = absurd h
le_is (inf s) y h k = absurd h
le_is (fin s m e) nan h k = absurd k
le_is (fin s m e) (inf t) h k = absurd k
le_is (fin s m e) (fin t n d) h k = at-most-is s t (m * up e) (down e) (n * up d) (down d)

-- ---- the same for a number that a float equals
lt-core : (xp xn xd qp qn qd yp yn yd : ℕ) → 0 < qd → xp * qd + qn * xd ≡ qp * xd + xn * qd
    → xp * yd + yn * xd < yp * xd + xn * yd → qp * yd + yn * qd < yp * qd + qn * yd
lt-core xp xn xd qp qn qd yp yn yd Q e h =
    lt_of_mul-lt-mul_right xd (omega (arith, mul-lt-mul_of_pos_right h Q, ap (λ (z : ℕ). z * yd) e))

le-core : (xp xn xd qp qn qd yp yn yd : ℕ) → 0 < xd → xp * qd + qn * xd ≡ qp * xd + xn * qd
    → yp * xd + xn * yd ≤ xp * yd + yn * xd → yp * qd + qn * yd ≤ qp * yd + yn * qd
le-core xp xn xd qp qn qd yp yn yd X e h =
    le_of_mul-le-mul_right {k = xd} (omega (arith, mul-le-mul_right qd h, ap (λ (z : ℕ). z * yd) e)) X

pub is_below : {x : Float} {q : Frac} (y : Float) → T (finite y) → Is x q → lt x y ≡ true
    → side q (val y) < side (val y) q
is_below {x} {q} y k i t =
    let X = val x in
    let Y = val y in
    lt-core X.p X.n X.d q.p q.n q.d Y.p Y.n Y.d i.same.right i.same.cross
    (ltb-true (side X Y) (side Y X) (sym (lt-is x y i.real k) ∙ t))

pub not-below : {x : Float} {q : Frac} (y : Float) → T (finite y) → Is x q → lt x y ≡ false
    → side (val y) q ≤ side q (val y)
not-below {x} {q} y k i t =
    let X = val x in
    let Y = val y in
    le-core X.p X.n X.d q.p q.n q.d Y.p Y.n Y.d i.same.left i.same.cross
    (ltb-false (side X Y) (side Y X) (sym (lt-is x y i.real k) ∙ t))
