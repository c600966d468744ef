-- Whole numbers as floats. Up to 2 ^ prec each is exact. Their difference is the whole difference, rounded; their
-- product is the whole product, rounded; and a quotient without remainder is the whole quotient, rounded. In each case
-- the exact value is a fraction that equals a whole number over 1. Assumes nothing.
use mathlib.Core.Path.{◌≡◌, refl, sym, ap, ◌∙◌}
use mathlib.Core.Bool.{Bool, true, false, cond, true≢false, not}
use Prim.Native.Nat.{ℕ, zero, suc, ◌-◌, ◌*◌, ◌^◌, ◌≤◌, ◌<◌}
use native.Mathlib.Nat.{mul-one, mul_assoc, mul_comm, mul-sub, mul-pos, mul-mul-mul_comm, mul-le-mul_right}
use native.Mathlib.Nat.{mul-lt-mul_of_pos_right}
use native.Mathlib.Omega.{arith}
use borrow.Author.Tests.{ltb-true, ltb-false, lt-ltb, le-ltb}
use lib.Dec.{ltb, eqb-suc-zero, lit<}
use lib.IntN.{ℤ, pos, negsuc, sub_ℕ, nat_abs}
use lib.Signed.{non_neg}
use lib.Ieee.{Float, nan, inf, fin, Format, prec, up, down, round, sub, sum, mul, div, of_int}
use lib.Ieee.Fits.{down_pos}
use lib.Ieee.Exact.{HasValue}
use lib.Ieee.Back.{round_whole}
use lib.Ieee.Scale.{round_same}

pub whole-value : (f : Format) (z : ℤ) → nat_abs z ≤ 2 ^ prec f → HasValue (of_int f z) (not (non_neg z)) (nat_abs z) 1
unfolding of_int
whole-value f (pos n) h = round_whole f false n h
whole-value f (negsuc n) h = round_whole f true (suc n) h

-- x / e is a, over the denominator e * d.
over : (x e a d : ℕ) → x * 1 ≡ a * e → x * d ≡ a * (e * d)
over x e a d v = ap (λ (z : ℕ). z * d) (sym (mul-one x) ∙ v) ∙ mul_assoc a e d

apart : (f : Format) (s : Bool) (a b n c : ℕ) → 0 < c → a - b ≡ n → round f s (a * c - b * c) c ≡ round f s n 1
apart f s a b n c C e =
    round_same f s (a * c - b * c) c n 1 C (lit< tt)
    (mul-one (a * c - b * c)
    ∙ rw (mul_comm a c, mul_comm b c) (sym (mul-sub c a b))
    ∙ mul_comm c (a - b)
    ∙ ap (λ (z : ℕ). z * c) e)

sum-whole : (f : Format) (a b c : ℕ) → 0 < c → sum f false (a * c) true (b * c) c ≡ of_int f (sub_ℕ a b)
unfolding sum of_int
sum-whole f a b c C = go (ltb a b) refl
  where
    go : (t : Bool) → ltb a b ≡ t
        → sum f false (a * c) true (b * c) c ≡ of_int f (cond t (negsuc (b - suc a)) (pos (a - b)))
    go true h =
        let l : a < b = ltb-true a b h in
        rw (lt-ltb (a * c) (b * c) (mul-lt-mul_of_pos_right l C)) (apart f true b a (suc (b - suc a)) c C (omega arith))
    go false h = rw (le-ltb (a * c) (b * c) (mul-le-mul_right c (ltb-false a b h))) (apart f false a b (a - b) c C refl)

pub whole-difference : (f : Format) (x y : Float) (a b : ℕ) → HasValue x false a 1 → HasValue y false b 1
    → sub f x y ≡ of_int f (sub_ℕ a b)
unfolding sub
whole-difference f nan y a b v w = absurd v
whole-difference f (inf s) y a b v w = absurd v
whole-difference f (fin true m e) y a b v w = absurd (true≢false v.0)
whole-difference f (fin false m e) nan a b v w = absurd w
whole-difference f (fin false m e) (inf t) a b v w = absurd w
whole-difference f (fin false m e) (fin true n d) a b v w = absurd (true≢false w.0)
whole-difference f (fin false m e) (fin false n d) a b v w =
    rw (
      over (m * up e) (down e) a (down d) v.1,
      over (n * up d) (down d) b (down e) w.1,
      mul_comm (down d) (down e),
    )
    (sum-whole f a b (down e * down d) (mul-pos (down_pos e) (down_pos d)))

pub whole-product : (f : Format) (x y : Float) (a b : ℕ) → HasValue x false a 1 → HasValue y false b 1
    → mul f x y ≡ of_int f (pos (a * b))
unfolding mul of_int
whole-product f nan y a b v w = absurd v
whole-product f (inf s) y a b v w = absurd v
whole-product f (fin true m e) y a b v w = absurd (true≢false v.0)
whole-product f (fin false m e) nan a b v w = absurd w
whole-product f (fin false m e) (inf t) a b v w = absurd w
whole-product f (fin false m e) (fin true n d) a b v w = absurd (true≢false w.0)
whole-product f (fin false m e) (fin false n d) a b v w =
    round_same f false (m * up e * (n * up d)) (down e * down d) (a * b) 1 (mul-pos (down_pos e) (down_pos d)) (lit< tt)
    (mul-one (m * up e * (n * up d))
    ∙ rw (sym (mul-one (m * up e)) ∙ v.1, sym (mul-one (n * up d)) ∙ w.1)
    (mul-mul-mul_comm a (down e) b (down d)))

pub whole-quotient : (f : Format) (x y : Float) (q b : ℕ) → 0 < b → HasValue x false (q * b) 1 → HasValue y false b 1
    → div f x y ≡ of_int f (pos q)
unfolding div of_int
whole-quotient f nan y q b B v w = absurd v
whole-quotient f (inf s) y q b B v w = absurd v
whole-quotient f (fin true m e) y q b B v w = absurd (true≢false v.0)
whole-quotient f (fin false m e) nan q b B v w = absurd w
whole-quotient f (fin false m e) (inf t) q b B v w = absurd w
whole-quotient f (fin false m e) (fin true n d) q b B v w = absurd (true≢false w.0)
whole-quotient f (fin false m e) (fin false zero d) q b B v w = absurd (omega (arith, w.1, mul-pos B (down_pos d)))
whole-quotient f (fin false m e) (fin false (suc n) d) q b B v w =
    let c = down e * down d in
    rw (
      eqb-suc-zero n,
      over (m * up e) (down e) (q * b) (down d) v.1,
      over (suc n * up d) (down d) b (down e) w.1,
      mul_comm (down d) (down e),
      mul_assoc q b c,
    )
    (round_same f false (q * (b * c)) (b * c) q 1 (mul-pos B (mul-pos (down_pos e) (down_pos d))) (lit< tt)
    (mul-one (q * (b * c))))
