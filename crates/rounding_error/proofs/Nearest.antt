-- `nearest_to` is the same float for equal numbers. A sum is that float of the exact sum if its second part is not
-- zero, because then no -0 is rounded. Assumes nothing.
use mathlib.Core.Path.{◌≡◌, ap, ◌∙◌}
use mathlib.Core.Bool.{Bool, true, false, not, ◌&&◌, beq, cond}
use Prim.Native.Nat.{ℕ, ◌+◌, ◌-◌, ◌*◌, ◌≤◌, ◌<◌}
use native.Mathlib.Nat.{le_of_lt, lt_of_mul-lt-mul_right, mul-lt-mul_of_pos_right, mul-pos}
use native.Mathlib.Omega.{arith}
use lib.Dec.{T, ltb, ltb→lt, nltb→le}
use lib.Ieee.{Float, nan, inf, fin, Format, up, down, round, sum, add}
use lib.Ieee.Fits.{down_pos}
use lib.Ieee.Scale.{finite, round_same}
use borrow.Author.Tests.{lt-ltb, le-ltb}
use Rattle.rounding.proofs.NumberOrders.{clash, less}
use Rattle.rounding.proofs.Sums.{sum-sign, sum-size, sum_is}
use Rattle.rounding_error.specs.Fraction.{Frac, plus, Same}
use Rattle.rounding_error.specs.Value.{signed, val, nearest_to}
use Rattle.rounding_error.proofs.Operations.{joint, joint-same, sum_same}

-- ---- equal numbers
below : (qp qn qd rp rn rd : ℕ) → 0 < rd → qp * rd + rn * qd ≡ rp * qd + qn * rd → qp < qn → rp < rn
below qp qn qd rp rn rd R e h = lt_of_mul-lt-mul_right qd (omega (arith, mul-lt-mul_of_pos_right h R))

pub nearest-same : {q r : Frac} (f : Format) → Same q r → nearest_to f q ≡ nearest_to f r
unfolding nearest_to
nearest-same {q} {r} f e =
    go (ltb q.p q.n) (ltb r.p r.n) (ltb→lt q.p q.n) (nltb→le q.p q.n) (ltb→lt r.p r.n)
    (nltb→le r.p r.n)
  where
    go : (b c : Bool) → (T b → q.p < q.n) → (T (not b) → q.n ≤ q.p) → (T c → r.p < r.n)
        → (T (not c) → r.n ≤ r.p)
        → cond b (round f true (q.n - q.p) q.d) (round f false (q.p - q.n) q.d)
        ≡ cond c (round f true (r.n - r.p) r.d) (round f false (r.p - r.n) r.d)
    go true true a b c d =
        round_same f true (q.n - q.p) q.d (r.n - r.p) r.d e.left e.right
        (omega (
          arith,
          e.cross,
          less q.p q.n r.d (le_of_lt (a tt)),
          less r.p r.n q.d (le_of_lt (c tt)),
        ))
    go false false a b c d =
        round_same f false (q.p - q.n) q.d (r.p - r.n) r.d e.left e.right
        (omega (arith, e.cross, less q.n q.p r.d (b tt), less r.n r.p q.d (d tt)))
    go true false a b c d =
        absurd (clash r.p r.n (below q.p q.n q.d r.p r.n r.d e.right e.cross (a tt))
        (d tt))
    go false true a b c d =
        absurd (clash q.p q.n
        (below r.p r.n r.d q.p q.n q.d e.left (omega (arith, e.cross)) (c tt)) (b tt))

-- ---- one rounding, if a minus does not stand before a zero
nearest-signed : (f : Format) (s : Bool) (a c : ℕ) → (T s → 0 < a) → round f s a c ≡ nearest_to f (signed s a c)
unfolding nearest_to
nearest-signed f false a c h = rw (le-ltb a 0 (omega arith)) (ap (λ (z : ℕ). round f false z c) (omega arith))
nearest-signed f true a c h = rw (lt-ltb 0 a (h tt)) (ap (λ (z : ℕ). round f true z c) (omega arith))

-- ---- a sum
minus : (s : Bool) (a : ℕ) (t : Bool) (b : ℕ) → 0 < b → T (sum-sign s a t b) → 0 < sum-size s a t b
minus s a t b B = go s t (ltb a b) (ltb b a) (ltb→lt a b) (ltb→lt b a)
  where
    go : (s t y z : Bool) → (T y → a < b) → (T z → b < a) → T (cond (beq s t) s (cond y t (s && z)))
        → 0 < cond (beq s t) (a + b) (cond y (b - a) (a - b))
    go true true y z h k u = omega arith
    go false false y z h k u = omega arith
    go true false true z h k u = let l = h tt in omega arith
    go false true true z h k u = let l = h tt in omega arith
    go true false false true h k u = let l = k tt in omega arith
    go true false false false h k u = absurd u
    go false true false z h k u = absurd u

pub sum-nearest : (f : Format) (s : Bool) (a : ℕ) (t : Bool) (b c : ℕ) → 0 < c → 0 < b
    → sum f s a t b c ≡ nearest_to f (joint s a t b c)
sum-nearest f s a t b c C B =
    sum_is f s a t b c
    ∙ nearest-signed f (sum-sign s a t b) (sum-size s a t b) c (minus s a t b B)
    ∙ nearest-same f (sum_same s a t b c C)

pub add-nearest : (f : Format) (x y : Float) → T (finite x) → T (finite y) → 0 < (val y).p + (val y).n
    → add f x y ≡ nearest_to f (plus (val x) (val y))
unfolding add
add-nearest f nan y h k z = absurd h
add-nearest f (inf s) y h k z = absurd h
add-nearest f (fin s m e) nan h k z = absurd k
add-nearest f (fin s m e) (inf t) h k z = absurd k
add-nearest f (fin s m e) (fin t n d) h k z =
    sum-nearest f s (m * up e * down d) t (n * up d * down e) (down e * down d) (mul-pos (down_pos e) (down_pos d))
    (mul-pos (some t (n * up d) (down d) z) (down_pos e))
    ∙ nearest-same f (joint-same s t (m * up e) (down e) (n * up d) (down d) (down_pos e) (down_pos d))
  where
    some : (t : Bool) (b d : ℕ) → 0 < (signed t b d).p + (signed t b d).n → 0 < b
    some false b d h = omega arith
    some true b d h = omega arith
