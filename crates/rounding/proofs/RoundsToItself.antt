-- A value of the format is the only one of its size and sign, so that its own fraction rounds to it,
-- and an f32 is its own nearest f32. Assumes nothing.
use mathlib.Core.Path.{◌≡◌, refl, sym, ap, ◌∙◌}
use mathlib.Core.Bool.{Bool}
use Prim.Native.Nat.{ℕ, suc, ◌*◌, ◌^◌, ◌<◌}
use native.Mathlib.Nat.{lt_of_lt_of_le, le_of_eq, mul_comm, mul_right_comm, eq_of_mul-eq-mul_right}
use lib.Dec.{T}
use lib.Pow.{pow-add, pow_pos}
use lib.Ieee.{Float, nan, inf, fin, Format, binary32, emax, low, up, down, round, fits, of_bits}
use lib.Ieee.Fits.{round-fits, down_pos}
use lib.Ieee.Exact.{HasValue, round_exact}
use lib.Ieee.Bits.{of_bits-to_bits}
use lib.Ieee.Scale.{round_same}
use Rattle.rounding.specs.Operations.{narrowed}
use Rattle.rounding.proofs.Units.{to_bits-value}
use Rattle.rounding.proofs.Values.{fits-units}

pub value-unique : (f : Format) (x y : Float) (s : Bool) (a : ℕ) → T (fits f x) → T (fits f y)
    → HasValue x s a (2 ^ low f) → HasValue y s a (2 ^ low f) → x ≡ y
value-unique f x y s a p q h k =
    sym (of_bits-to_bits f x p)
    ∙ ap (of_bits f) (to_bits-value f x s a h ∙ sym (to_bits-value f y s a k))
    ∙ of_bits-to_bits f y q

pub round-own : (f : Format) (x : Float) (s : Bool) (a c : ℕ) → T (fits f x) → 0 < c → HasValue x s a c
    → round f s a c ≡ x
round-own f nan s a c p C v = absurd v
round-own f (inf t) s a c p C v = absurd v
round-own f (fin t m e) s a c p C v =
    let (i, w, few, below) = fits-units f t m e p in
    let b = m * 2 ^ i in
    let l = 2 ^ low f in
    let cross : a * l ≡ b * c =
    eq_of_mul-eq-mul_right (down e) (down_pos e) (a * l) (b * c)
    (mul_right_comm a l (down e)
    ∙ ap (λ (z : ℕ). z * l) (sym v.1)
    ∙ mul_right_comm (m * up e) c l
    ∙ ap (λ (z : ℕ). z * c) w.1
    ∙ mul_right_comm b (down e) c) in
    let exact : HasValue (round f t b l) t b l =
    round_exact f t b l m i (pow_pos (low f)) few
    (lt_of_lt_of_le below (le_of_eq (mul_comm (2 ^ suc (emax f)) l ∙ sym (pow-add 2 (low f) (suc (emax f))))))
    refl in
    ap (λ (z : Bool). round f z a c) (sym v.0)
    ∙ round_same f t a c b l C (pow_pos (low f)) cross
    ∙ value-unique f (round f t b l) (fin t m e) t b (round-fits f t b l) p exact w

pub narrowed-own : (x : Float) → T (fits binary32 x) → narrowed x ≡ x
unfolding narrowed
narrowed-own nan h = refl
narrowed-own (inf s) h = refl
narrowed-own (fin s m e) h = round-own binary32 (fin s m e) s (m * up e) (down e) h (down_pos e) (refl, refl)
