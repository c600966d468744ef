-- Each operation is one rounding of its exact result: a sum, a product, a quotient by a number above zero.
-- By the cases of the signs. Assumes nothing.
use mathlib.Core.Path.{◌≡◌, refl}
use mathlib.Core.Bool.{Bool, true, false, cond}
use Prim.Native.Nat.{ℕ, ◌+◌, ◌*◌, ◌≤◌, ◌<◌}
use native.Mathlib.Nat.{add-mul, mul-pos}
use native.Mathlib.Omega.{arith}
use lib.IntN.{ℤ}
use lib.Dec.{T, eqb, eqb→eq}
use lib.Ieee.{Float, nan, inf, fin, Format, unlike, up, down, round, add, mul, div}
use lib.Ieee.Fits.{down_pos, up_pos}
use lib.Ieee.Scale.{finite}
use Rattle.rounding.specs.Nearest.{SumOf}
use Rattle.rounding.proofs.Sums.{sum-sign, sum-size, sum_is}
use Rattle.rounding.proofs.SignedSums.{sum-adds}
use Rattle.rounding_error.specs.Fraction.{Frac, frac, nil, plus, times, over, Same, Within}
use Rattle.rounding_error.specs.Value.{signed, val}
use Rattle.rounding_error.proofs.Same.{ring, same-sym, same-trans}
use Rattle.rounding_error.proofs.Within.{from}
use Rattle.rounding_error.proofs.Value.{signed-d, signed-pos}

-- x is a rounding of the number q.
pub record Rounded (f : Format) (x : Float) (q : Frac) : Type 0 where
  pub s : Bool
  pub a : ℕ
  pub c : ℕ
  pub is : x ≡ round f s a c
  pub same : Same (signed s a c) q

-- The same rounding, seen as one of an equal number.
pub seen : {f : Format} {x : Float} {q r : Frac} → Same q r → Rounded f x q → Rounded f x r
seen e w = record { s = w.s; a = w.a; c = w.c; is = w.is; same = same-trans w.same e }

pub bottom : {f : Format} {x : Float} {q : Frac} (r : Rounded f x q) → 0 < r.c
bottom r = rw (signed-d r.s r.a r.c) at r.same.left

pub bounded : {f : Format} {x : Float} {q : Frac} {g e : ℕ} (r : Rounded f x q) → Within g e q nil → r.a * g ≤ r.c * e
bounded {g = g} {e} r w = go r.s r.a r.c (from (same-sym r.same) w)
  where
    go : (s : Bool) (a c : ℕ) → Within g e (signed s a c) nil → a * g ≤ c * e
    go false a c w = omega (arith, w.above)
    go true a c w = omega (arith, w.below)

-- ---- ±a / c + ±b / c, over c
abbrev pub joint : Bool → ℕ → Bool → ℕ → ℕ → Frac
joint s a t b c = frac ((signed s a c).p + (signed t b c).p) ((signed s a c).n + (signed t b c).n) c

-- ±num / den is ±a / c + ±b / c.
pub sum-is-joint : (S s t : Bool) (num den a b c : ℕ) → 0 < den → 0 < c → SumOf S (num * c) s (a * den) t (b * den)
    → Same (signed S num den) (joint s a t b c)
sum-is-joint true true true num den a b c D C h = omega (arith, h.adds, add-mul a b den)
sum-is-joint true true false num den a b c D C h = omega (arith, h.adds)
sum-is-joint true false true num den a b c D C h = omega (arith, h.adds)
sum-is-joint true false false num den a b c D C h = omega (arith, h.adds, add-mul a b den)
sum-is-joint false true true num den a b c D C h = omega (arith, h.adds, add-mul a b den)
sum-is-joint false true false num den a b c D C h = omega (arith, h.adds)
sum-is-joint false false true num den a b c D C h = omega (arith, h.adds)
sum-is-joint false false false num den a b c D C h = omega (arith, h.adds, add-mul a b den)

pub sum_same : (s : Bool) (a : ℕ) (t : Bool) (b c : ℕ) → 0 < c
    → Same (signed (sum-sign s a t b) (sum-size s a t b) c) (joint s a t b c)
sum_same s a t b c C = sum-is-joint (sum-sign s a t b) s t (sum-size s a t b) c a b c C C (sum-adds s a t b c C)

pub joint-same : (s t : Bool) (a c b d : ℕ) → 0 < c → 0 < d
    → Same (joint s (a * d) t (b * c) (c * d)) (plus (signed s a c) (signed t b d))
joint-same s t a c b d C D =
    record { left = mul-pos C D; right = mul-pos (signed-pos s a c C) (signed-pos t b d D); cross = go s t }
  where
    go : (s t : Bool) → let x = signed s a c in
        let y = signed t b d in
        let j = joint s (a * d) t (b * c) (c * d) in
        j.p * (x.d * y.d) + (x.n * y.d + y.n * x.d) * (c * d)
        ≡ (x.p * y.d + y.p * x.d) * (c * d) + j.n * (x.d * y.d)
    go false false = simp ring (omega arith)
    go false true = simp ring (omega arith)
    go true false = simp ring (omega arith)
    go true true = simp ring (omega arith)

pub add-rounded : (f : Format) (x y : Float) → T (finite x) → T (finite y)
    → Rounded f (add f x y) (plus (val x) (val y))
unfolding add
add-rounded f nan y h k = absurd h
add-rounded f (inf s) y h k = absurd h
add-rounded f (fin s m e) nan h k = absurd k
add-rounded f (fin s m e) (inf t) h k = absurd k
add-rounded f (fin s m e) (fin t n d) h k =
    let a = m * up e * down d in
    let b = n * up d * down e in
    let c = down e * down d in
    record {
      s = sum-sign s a t b;
      a = sum-size s a t b;
      c = c;
      is = sum_is f s a t b c;
      same =
          same-trans (sum_same s a t b c (mul-pos (down_pos e) (down_pos d)))
          (joint-same s t (m * up e) (down e) (n * up d) (down d) (down_pos e) (down_pos d));
    }

-- ---- a product
pub product-same : (s t : Bool) (a c b d : ℕ) → 0 < c → 0 < d
    → Same (signed (unlike s t) (a * b) (c * d)) (times (signed s a c) (signed t b d))
product-same s t a c b d C D =
    record {
      left = signed-pos (unlike s t) (a * b) (c * d) (mul-pos C D);
      right = mul-pos (signed-pos s a c C) (signed-pos t b d D);
      cross = go s t;
    }
  where
    go : (s t : Bool) → let x = signed s a c in
        let y = signed t b d in
        let j = signed (unlike s t) (a * b) (c * d) in
        j.p * (x.d * y.d) + (x.p * y.n + x.n * y.p) * j.d
        ≡ (x.p * y.p + x.n * y.n) * j.d + j.n * (x.d * y.d)
    go false false = simp ring (omega arith)
    go false true = simp ring (omega arith)
    go true false = simp ring (omega arith)
    go true true = simp ring (omega arith)

pub mul-rounded : (f : Format) (x y : Float) → T (finite x) → T (finite y)
    → Rounded f (mul f x y) (times (val x) (val y))
unfolding mul
mul-rounded f nan y h k = absurd h
mul-rounded f (inf s) y h k = absurd h
mul-rounded f (fin s m e) nan h k = absurd k
mul-rounded f (fin s m e) (inf t) h k = absurd k
mul-rounded f (fin s m e) (fin t n d) h k =
    record {
      s = unlike s t;
      a = m * up e * (n * up d);
      c = down e * down d;
      is = refl;
      same = product-same s t (m * up e) (down e) (n * up d) (down d) (down_pos e) (down_pos d);
    }

-- ---- a quotient, by a number that is above zero
pub div-rounded : (f : Format) (x : Float) (n : ℕ) (d : ℤ) → T (finite x) → 0 < n
    → Rounded f (div f x (fin false n d)) (over (val x) (n * up d) (down d))
unfolding div
div-rounded f nan n d h N = absurd h
div-rounded f (inf s) n d h N = absurd h
div-rounded f (fin s m e) n d h N = go (eqb n 0) (eqb→eq n 0)
  where
    B : 0 < n * up d
    B = mul-pos N (up_pos d)

    same_of : (s : Bool) (a c b d : ℕ) → 0 < b * c → 0 < c * b
        → Same (signed (unlike s false) (a * d) (b * c)) (over (signed s a c) b d)
    same_of false a c b d L R = record { left = L; right = R; cross = simp ring (omega arith) }
    same_of true a c b d L R = record { left = L; right = R; cross = simp ring (omega arith) }

    go : (z : Bool) → (T z → n ≡ 0)
        → Rounded f
        (cond z (cond (eqb m 0) nan (inf (unlike s false)))
        (round f (unlike s false) (m * up e * down d) (n * up d * down e)))
        (over (val (fin s m e)) (n * up d) (down d))
    go true k = absurd (clash (k tt))
      where
        clash : n ≡ 0 → ⊥
        clash b = omega arith
    go false k =
        record {
          s = unlike s false;
          a = m * up e * down d;
          c = n * up d * down e;
          is = refl;
          same = same_of s (m * up e) (down e) (n * up d) (down d) (mul-pos B (down_pos e)) (mul-pos (down_pos e) B);
        }
