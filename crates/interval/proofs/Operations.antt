-- A sum, a product and a quotient of finite floats are each one rounding of an exact (p - n) / c, and two roundings
-- have the order of the numbers that are rounded. Assumes nothing.
use mathlib.Core.Path.{◌≡◌, refl, sym, ap}
use mathlib.Core.Bool.{Bool, true, false, not, cond}
use Prim.Native.Nat.{ℕ, zero, suc, ◌+◌, ◌-◌, ◌*◌, ◌≤◌, ◌<◌}
use native.Mathlib.Nat.{lt_irrefl, zero-mul, mul-zero}
use native.Mathlib.Omega.{arith}
use lib.Dec.{T, ltb, ltb→lt, nltb→le, eqb-suc-zero}
use lib.Ieee.{Float, nan, inf, fin, Format, unlike, up, down, round, sum, add, mul, div, le}
use lib.Ieee.Positive.{den}
use lib.Ieee.Scale.{finite}
use Rattle.interval.proofs.Signed.{ring, plus, less, gain, loss}
use Rattle.interval.proofs.Rounded.{round-order}

-- x is one rounding of (p - n) / c.
pub record Rounds (f : Format) (x : Float) (p n c : ℕ) : Type 0 where
  pub sign : Bool
  pub size : ℕ
  pub is : x ≡ round f sign size c
  pub same : p + less sign size ≡ n + plus sign size

pub in_order : (f : Format) {x y : Float} (p n c p' n' c' : ℕ) → 0 < c → 0 < c' → Rounds f x p n c → Rounds f y p' n' c'
    → p * c' + n' * c ≤ p' * c + n * c' → T (le x y)
in_order f p n c p' n' c' C C' r q h =
    rw (r.is, q.is)
    (round-order f r.sign q.sign r.size c q.size c' C C'
    (omega (arith, simp ring at (ap (λ (z : ℕ). z * c') r.same), simp ring at (ap (λ (z : ℕ). z * c) q.same))))

-- ---- each operation is one rounding
summed : (f : Format) (s t : Bool) (a b c : ℕ)
    → Rounds f (sum f s a t b c) (plus s a + plus t b) (less s a + less t b) c
unfolding sum
summed f false false a b c = record { sign = false; size = a + b; is = refl; same = omega arith }
summed f true true a b c = record { sign = true; size = a + b; is = refl; same = omega arith }
summed f false true a b c = go (ltb a b) (ltb→lt a b) (nltb→le a b)
  where
    go : (l : Bool) → (T l → a < b) → (T (not l) → b ≤ a)
        → Rounds f (cond l (round f true (b - a) c) (round f false (a - b) c)) (a + 0) (0 + b) c
    go true h k = record { sign = true; size = b - a; is = refl; same = omega (arith, h tt) }
    go false h k = record { sign = false; size = a - b; is = refl; same = omega (arith, k tt) }
summed f true false a b c = go (ltb a b) (ltb b a) (ltb→lt a b) (nltb→le a b) (nltb→le b a)
  where
    go : (l g : Bool) → (T l → a < b) → (T (not l) → b ≤ a) → (T (not g) → a ≤ b)
        → Rounds f (cond l (round f false (b - a) c) (round f g (a - b) c)) (0 + b) (a + 0) c
    go true g h k i = record { sign = false; size = b - a; is = refl; same = omega (arith, h tt) }
    go false true h k i = record { sign = true; size = a - b; is = refl; same = omega (arith, k tt) }
    go false false h k i = record { sign = false; size = a - b; is = refl; same = omega (arith, k tt, i tt) }

scaled : (s : Bool) (a d : ℕ) → (plus s (a * d) ≡ plus s a * d) × (less s (a * d) ≡ less s a * d)
scaled true a d = (sym (zero-mul d), refl)
scaled false a d = (refl, sym (zero-mul d))

pub added : (f : Format) (x y : Float) → T (finite x) → T (finite y)
    → Rounds f (add f x y) (gain x * den y + gain y * den x) (loss x * den y + loss y * den x) (den x * den y)
unfolding add
added f nan y p q = absurd p
added f (inf s) y p q = absurd p
added f (fin s m e) nan p q = absurd q
added f (fin s m e) (inf t) p q = absurd q
added f (fin s m e) (fin t n d) p q =
    let r = summed f s t (m * up e * down d) (n * up d * down e) (down e * down d) in
    let a = scaled s (m * up e) (down d) in
    let b = scaled t (n * up d) (down e) in
    record { sign = r.sign; size = r.size; is = r.is; same = omega (arith, r.same) }

product : (s t : Bool) (a b : ℕ)
    → plus s a * plus t b + less s a * less t b + less (unlike s t) (a * b)
    ≡ plus s a * less t b + less s a * plus t b + plus (unlike s t) (a * b)
product false false a b = simp (zero-mul, mul-zero) (omega arith)
product false true a b = simp (zero-mul, mul-zero) (omega arith)
product true false a b = simp (zero-mul, mul-zero) (omega arith)
product true true a b = simp (zero-mul, mul-zero) (omega arith)

pub multiplied : (f : Format) (x y : Float) → T (finite x) → T (finite y)
    → Rounds f (mul f x y) (gain x * gain y + loss x * loss y) (gain x * loss y + loss x * gain y) (den x * den y)
unfolding mul
multiplied f nan y p q = absurd p
multiplied f (inf s) y p q = absurd p
multiplied f (fin s m e) nan p q = absurd q
multiplied f (fin s m e) (inf t) p q = absurd q
multiplied f (fin s m e) (fin t n d) p q =
    record { sign = unlike s t; size = m * up e * (n * up d); is = refl; same = product s t (m * up e) (n * up d) }

own_sign : (s : Bool) → unlike s false ≡ s
own_sign true = refl
own_sign false = refl

pub divided : (f : Format) (x y : Float) → T (finite x) → T (finite y) → 0 < gain y
    → Rounds f (div f x y) (gain x * den y) (loss x * den y) (gain y * den x)
unfolding div
divided f nan y p q h = absurd p
divided f (inf s) y p q h = absurd p
divided f (fin s m e) nan p q h = absurd q
divided f (fin s m e) (inf t) p q h = absurd q
divided f (fin s m e) (fin true n d) p q h = absurd (lt_irrefl 0 h)
divided f (fin s m e) (fin false zero d) p q h = absurd (lt_irrefl 0 (rw (zero-mul (up d)) at h))
divided f (fin s m e) (fin false (suc n) d) p q h =
    let a = scaled s (m * up e) (down d) in
    record { sign = s; size = m * up e * down d; is = rw (eqb-suc-zero, own_sign); same = omega arith }
