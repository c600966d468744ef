-- Horner's exact nested sum 1 / n! + z * (1 / (d + n)! + ..) is Taylor's fraction: with z = -(x * x) and d = 2 the
-- alternating one, with z = x and d = 1 the rising one. A power is distributed over the sum, and moved into it step by
-- step. Assumes nothing.
use mathlib.Core.Path.{◌≡◌}
use Prim.Native.Nat.{ℕ, zero, suc, ◌+◌, ◌*◌, ◌<◌}
use native.Mathlib.Nat.{mul-pos}
use native.Mathlib.Omega.{arith}
use lib.Dec.{lit<}
use Rattle.rounding_error.specs.Fraction.{Frac, frac, plus, times, opp, Same}
use Rattle.rounding_error.proofs.Same.{sums, same_refl, same-sym, same-trans, plus-same, times-same, opp-same}
use Rattle.polynomials.specs.Taylor.{factorial, power, term, alternating, rising}

pub factorial-pos : (n : ℕ) → 0 < factorial n
unfolding factorial
factorial-pos zero = lit< tt
factorial-pos (suc n) = mul-pos (omega arith) (factorial-pos n)

unfoldable pub nested : ℕ → Frac → ℕ → ℕ → Frac
nested d z n zero = frac 1 0 (factorial n)
nested d z n (suc k) = plus (frac 1 0 (factorial n)) (times z (nested d z (d + n) k))

nested-pos : (d : ℕ) (z : Frac) (n k : ℕ) → 0 < z.d → 0 < (nested d z n k).d
unfolding nested
nested-pos d z n zero Z = factorial-pos n
nested-pos d z n (suc k) Z = mul-pos (factorial-pos n) (mul-pos Z (nested-pos d z (d + n) k Z))

power_pos : (x : Frac) (n : ℕ) → 0 < x.d → 0 < (power x n).d
unfolding power
power_pos x zero X = lit< tt
power_pos x (suc n) X = mul-pos (power_pos x n X) X

-- ---- a power distributed over a step of the nested sum
-- Parts that are k times those of another fraction are the same number.
same_parts : (k p n d : ℕ) {p' n' d' : ℕ} → p' ≡ k * p → n' ≡ k * n → d' ≡ k * d → p * d' + n' * d ≡ p' * d + n * d'
same_parts k p n d e f h = rw (e, f, h) (ring_of k p n d)
  where
    ring_of : (k p n d : ℕ) → p * (k * d) + k * n * d ≡ k * p * d + n * (k * d)
    ring_of k p n d = simp sums

-- Part by part the distributed sum is the denominator of a times the other.
spread-core : (ap an ad cp cn cd zp zn zd np nn nd : ℕ) → let t =
    plus (times (frac ap an ad) (frac cp cn cd)) (times (times (frac ap an ad) (frac zp zn zd)) (frac np nn nd)) in
    let l = times (frac ap an ad) (plus (frac cp cn cd) (times (frac zp zn zd) (frac np nn nd))) in
    (t.p ≡ ad * l.p) × (t.n ≡ ad * l.n) × (t.d ≡ ad * l.d)
spread-core ap an ad cp cn cd zp zn zd np nn nd = (simp sums, simp sums, simp sums)

spread : (a c z n : Frac) → 0 < a.d → 0 < c.d → 0 < z.d → 0 < n.d
    → Same (times a (plus c (times z n))) (plus (times a c) (times (times a z) n))
spread a c z n A C Z N =
    let l = times a (plus c (times z n)) in
    let s = spread-core a.p a.n a.d c.p c.n c.d z.p z.n z.d n.p n.n n.d in
    record {
      left = mul-pos A (mul-pos C (mul-pos Z N));
      right = mul-pos (mul-pos A C) (mul-pos (mul-pos A Z) N);
      cross = same_parts a.d l.p l.n l.d s.0 s.1 s.2;
    }

-- The term x ^ n / n!.
term-same : (x : Frac) (n : ℕ) → 0 < x.d → Same (times (power x n) (frac 1 0 (factorial n))) (term x n)
unfolding term
term-same x n X =
    let P = mul-pos (power_pos x n X) (factorial-pos n) in record { left = P; right = P; cross = omega arith }

step : (x z t : Frac) (n : ℕ) {y : Frac} → 0 < x.d → 0 < z.d → 0 < t.d → Same (times (times (power x n) z) t) y
    → Same (times (power x n) (plus (frac 1 0 (factorial n)) (times z t))) (plus (term x n) y)
step x z t n X Z N h =
    same-trans (spread (power x n) (frac 1 0 (factorial n)) z t (power_pos x n X) (factorial-pos n) Z N)
    (plus-same (term-same x n X) h)

-- ---- rising
pub rises : (y : Frac) (n k : ℕ) → 0 < y.d → Same (times (power y n) (nested 1 y n k)) (rising y n k)
unfolding nested rising power
rises y n zero Y = term-same y n Y
rises y n (suc k) Y =
    let e : 1 + n ≡ suc n = omega arith in
    rw e (step y y (nested 1 y (suc n) k) n Y Y (nested-pos 1 y (suc n) k Y) (rises y (suc n) k Y))

-- ---- alternating
equal-parts : (p n d : ℕ) {p' n' d' : ℕ} → p' ≡ p → n' ≡ n → d' ≡ d → p * d' + n' * d ≡ p' * d + n * d'
equal-parts p n d e f h = rw (e, f, h)

turned-core : (pp pn pd xp xn xd tp tn td : ℕ) → let l =
    times (times (frac pp pn pd) (opp (times (frac xp xn xd) (frac xp xn xd)))) (frac tp tn td) in
    let r = opp (times (times (times (frac pp pn pd) (frac xp xn xd)) (frac xp xn xd)) (frac tp tn td)) in
    (r.p ≡ l.p) × (r.n ≡ l.n) × (r.d ≡ l.d)
turned-core pp pn pd xp xn xd tp tn td = (simp sums, simp sums, simp sums)

turned : (p x t : Frac) → 0 < p.d → 0 < x.d → 0 < t.d
    → Same (times (times p (opp (times x x))) t) (opp (times (times (times p x) x) t))
turned p x t P X Q =
    let l = times (times p (opp (times x x))) t in
    let s = turned-core p.p p.n p.d x.p x.n x.d t.p t.n t.d in
    record {
      left = mul-pos (mul-pos P (mul-pos X X)) Q;
      right = mul-pos (mul-pos (mul-pos P X) X) Q;
      cross = equal-parts l.p l.n l.d s.0 s.1 s.2;
    }

pub alternates : (x : Frac) (n k : ℕ) → 0 < x.d
    → Same (times (power x n) (nested 2 (opp (times x x)) n k)) (alternating x n k)
unfolding nested alternating power
alternates x n zero X = term-same x n X
alternates x n (suc k) X =
    let z = opp (times x x) in
    let Z = mul-pos X X in
    let t = nested 2 z (suc (suc n)) k in
    let P = nested-pos 2 z (suc (suc n)) k Z in
    let e : 2 + n ≡ suc (suc n) = omega arith in
    rw e (step x z t n X Z P (same-trans (turned (power x n) x t (power_pos x n X) X P)
    (opp-same (alternates x (suc (suc n)) k X))))

-- ---- equal numbers have equal fractions
power-same : {x y : Frac} (n : ℕ) → Same x y → Same (power x n) (power y n)
unfolding power
power-same zero e = same_refl (lit< tt)
power-same (suc n) e = times-same (power-same n e) e

terms-same : {x y : Frac} (n : ℕ) → Same x y → Same (term x n) (term y n)
terms-same {x} {y} n e =
    same-trans (same-sym (term-same x n e.left))
    (same-trans (times-same (power-same n e) (same_refl (factorial-pos n))) (term-same y n e.right))

pub alternating-same : {x y : Frac} (n k : ℕ) → Same x y → Same (alternating x n k) (alternating y n k)
unfolding alternating
alternating-same n zero e = terms-same n e
alternating-same n (suc k) e = plus-same (terms-same n e) (opp-same (alternating-same (suc (suc n)) k e))
