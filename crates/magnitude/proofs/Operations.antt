-- The magnitude of a sum, a difference, a product and a quotient, each rounded once: the exact value is within the
-- bound, and one rounding keeps it.
-- Assumes nothing.
use mathlib.Core.Path.{◌≡◌, sym, ap, ◌∙◌}
use mathlib.Core.Bool.{Bool, true, false, ◌&&◌, cond, beq}
use Prim.Native.Nat.{ℕ, zero, suc, ◌+◌, ◌-◌, ◌*◌, ◌^◌, ◌≤◌, ◌<◌}
use native.Mathlib.Nat.{le_trans, le_of_eq, zero-lt-suc, mul-pos, mul-le-mul, mul-le-mul_left, mul-le-mul_right}
use native.Mathlib.Nat.{le_of_mul-le-mul_right, mul_assoc, mul_comm, mul_left_comm, mul_right_comm, mul-mul-mul_comm}
use native.Mathlib.Nat.{add-mul}
use native.Mathlib.Omega.{arith}
use lib.Dec.{ltb, eqb-suc-zero}
use lib.Ieee.{Float, nan, inf, fin, Format, prec, unlike, up, down, round, neg, sum, add, sub, mul, div}
use lib.Ieee.Fits.{down_pos, up_pos}
use lib.Ieee.Exact.{HasValue}
use Rattle.magnitude.specs.Bounds.{AtMost}
use Rattle.magnitude.proofs.Rounded.{round-at-most}

ruleset products = (mul_assoc, mul_comm, mul_left_comm)

pub neg-at-most : (b : ℕ) (x : Float) → AtMost b x → AtMost b (neg x)
unfolding neg
neg-at-most b nan h = h
neg-at-most b (inf s) h = h
neg-at-most b (fin s m e) h = h

-- ---- sum and difference
sum-at-most : (f : Format) (b : ℕ) (s t : Bool) (x y c : ℕ) → b ≤ 2 ^ prec f → 0 < c → x + y ≤ b * c
    → AtMost b (sum f s x t y c)
unfolding sum
sum-at-most f b s t x y c B C h = go (beq s t) (ltb x y) (s && ltb y x)
  where
    go : (p q r : Bool) → AtMost b (cond p (round f s (x + y) c) (cond q (round f t (y - x) c) (round f r (x - y) c)))
    go true q r = round-at-most f b s (x + y) c B C h
    go false true r = round-at-most f b t (y - x) c B C (omega arith)
    go false false r = round-at-most f b r (x - y) c B C (omega arith)

pub add-at-most : (f : Format) (a b : ℕ) (x y : Float) → a + b ≤ 2 ^ prec f → AtMost a x → AtMost b y
    → AtMost (a + b) (add f x y)
unfolding add
add-at-most f a b nan y B h k = absurd h
add-at-most f a b (inf s) y B h k = absurd h
add-at-most f a b (fin s m e) nan B h k = absurd k
add-at-most f a b (fin s m e) (inf t) B h k = absurd k
add-at-most f a b (fin s m e) (fin t n d) B h k =
    sum-at-most f (a + b) s t (m * up e * down d) (n * up d * down e) (down e * down d) B
    (mul-pos (down_pos e) (down_pos d))
    (omega (
      arith,
      mul-le-mul_right (down d) h,
      mul-le-mul_right (down e) k,
      add-mul a b (down e * down d),
      mul_assoc a (down e) (down d),
      mul_assoc b (down d) (down e),
      mul_comm (down d) (down e),
    ))

pub sub-at-most : (f : Format) (a b : ℕ) (x y : Float) → a + b ≤ 2 ^ prec f → AtMost a x → AtMost b y
    → AtMost (a + b) (sub f x y)
unfolding sub
sub-at-most f a b x y B h k = add-at-most f a b x (neg y) B h (neg-at-most b y k)

-- ---- product
pub mul-at-most : (f : Format) (a b : ℕ) (x y : Float) → a * b ≤ 2 ^ prec f → AtMost a x → AtMost b y
    → AtMost (a * b) (mul f x y)
unfolding mul
mul-at-most f a b nan y B h k = absurd h
mul-at-most f a b (inf s) y B h k = absurd h
mul-at-most f a b (fin s m e) nan B h k = absurd k
mul-at-most f a b (fin s m e) (inf t) B h k = absurd k
mul-at-most f a b (fin s m e) (fin t n d) B h k =
    round-at-most f (a * b) (unlike s t) (m * up e * (n * up d)) (down e * down d) B (mul-pos (down_pos e) (down_pos d))
    (le_trans (mul-le-mul h k) (le_of_eq (mul-mul-mul_comm a (down e) b (down d))))

-- A product with a factor that is the fraction p / q.
pub scale-at-most : (f : Format) (a b : ℕ) (x y : Float) (s : Bool) (p q : ℕ) → b ≤ 2 ^ prec f → 0 < q
    → HasValue x s p q → AtMost a y → p * a ≤ b * q → AtMost b (mul f x y)
unfolding mul
scale-at-most f a b nan y s p q B Q v k l = absurd v
scale-at-most f a b (inf t) y s p q B Q v k l = absurd v
scale-at-most f a b (fin t m e) nan s p q B Q v k l = absurd k
scale-at-most f a b (fin t m e) (inf u) s p q B Q v k l = absurd k
scale-at-most f a b (fin t m e) (fin u n d) s p q B Q v k l =
    round-at-most f b (unlike t u) (m * up e * (n * up d)) (down e * down d) B (mul-pos (down_pos e) (down_pos d))
    (scaled (m * up e) (down e) (n * up d) (down d) Q v.1 k l)
  where
    scaled : (x c y d : ℕ) → 0 < q → x * q ≡ p * c → y ≤ a * d → p * a ≤ b * q → x * y ≤ b * (c * d)
    scaled x c y d Q v k l =
        le_of_mul-le-mul_right (le_trans (le_of_eq lhs) (le_trans (mul-le-mul_left (p * c) k)
        (le_trans (le_of_eq mid) (le_trans (mul-le-mul_right (c * d) l) (le_of_eq rhs))))) Q
      where
        lhs : x * y * q ≡ p * c * y
        lhs = mul_right_comm x y q ∙ ap (λ (z : ℕ). z * y) v

        mid : p * c * (a * d) ≡ p * a * (c * d)
        mid = mul-mul-mul_comm p c a d

        rhs : b * q * (c * d) ≡ b * (c * d) * q
        rhs = mul_right_comm b q (c * d)

-- ---- quotient, by the fraction p / q
pub div-at-most : (f : Format) (a b : ℕ) (x y : Float) (s : Bool) (p q : ℕ) → b ≤ 2 ^ prec f → 0 < p → 0 < q
    → AtMost a x → HasValue y s p q → a * q ≤ b * p → AtMost b (div f x y)
unfolding div
div-at-most f a b nan y s p q B P Q h v l = absurd h
div-at-most f a b (inf t) y s p q B P Q h v l = absurd h
div-at-most f a b (fin t m e) nan s p q B P Q h v l = absurd v
div-at-most f a b (fin t m e) (inf u) s p q B P Q h v l = absurd v
div-at-most f a b (fin t m e) (fin u zero d) s p q B P Q h v l = absurd (omega (arith, v.1, mul-pos P (down_pos d)))
div-at-most f a b (fin t m e) (fin u (suc n) d) s p q B P Q h v l =
    rw (eqb-suc-zero n)
    (round-at-most f b (unlike t u) (m * up e * down d) (suc n * up d * down e) B
    (mul-pos (mul-pos (zero-lt-suc n) (up_pos d)) (down_pos e))
    (divided (m * up e) (down e) (suc n * up d) (down d) Q h v.1 l))
  where
    divided : (x c y d : ℕ) → 0 < q → x ≤ a * c → y * q ≡ p * d → a * q ≤ b * p → x * d ≤ b * (y * c)
    divided x c y d Q h v l =
        le_of_mul-le-mul_right
        (le_trans (mul-le-mul_right q (mul-le-mul_right d h))
        (le_trans (le_of_eq mid) (le_trans (mul-le-mul_right (c * d) l) (le_of_eq rhs)))) Q
      where
        mid : a * c * d * q ≡ a * q * (c * d)
        mid = simp products

        rhs : b * p * (c * d) ≡ b * (y * c) * q
        rhs = mul-mul-mul_comm b p c d ∙ ap (λ (z : ℕ). b * c * z) (sym v) ∙ simp products
