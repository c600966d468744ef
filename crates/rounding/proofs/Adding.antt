-- `add` and `sub` of values that are given as fractions, or as multiples of 1 / L. Assumes nothing.
use mathlib.Core.Path.{◌≡◌, refl, ap, ◌∙◌}
use mathlib.Core.Bool.{Bool, true, false, cond}
use Prim.Native.Nat.{ℕ, ◌+◌, ◌-◌, ◌*◌, ◌≤◌, ◌<◌}
use native.Mathlib.Nat.{mul_comm, mul_assoc, mul-pos, mul-mul-mul_comm}
use lib.IntN.{ℤ}
use lib.Ieee.{Float, nan, inf, fin, Format, up, down, round, sum, add, sub, neg}
use lib.Ieee.Fits.{down_pos}
use lib.Ieee.Exact.{HasValue}
use borrow.Author.Tests.{le-ltb}
use Rattle.rounding.proofs.Sums.{sum_is, sum_like, sum_same}
use Rattle.rounding.proofs.Values.{neg_value}

pub add_is : (f : Format) (s : Bool) (m : ℕ) (e : ℤ) (t : Bool) (n : ℕ) (d : ℤ)
    → add f (fin s m e) (fin t n d) ≡ sum f s (m * up e * down d) t (n * up d * down e) (down e * down d)
unfolding add
add_is f s m e t n d = refl

pub add-value : (f : Format) (x : Float) (s : Bool) (A C : ℕ) (t : Bool) (n : ℕ) (d : ℤ) → 0 < C → HasValue x s A C
    → add f x (fin t n d) ≡ sum f s (A * down d) t (n * up d * C) (C * down d)
add-value f nan s A C t n d P h = absurd h
add-value f (inf u) s A C t n d P h = absurd h
add-value f (fin u m e) s A C t n d P h =
    add_is f u m e t n d
    ∙ sum_same f u (m * up e * down d) t (n * up d * down e) (down e * down d) (A * down d) (n * up d * C) (C * down d)
    (mul-pos (down_pos e) (down_pos d)) (mul-pos P (down_pos d))
    (mul-mul-mul_comm (m * up e) (down d) C (down d)
    ∙ ap (λ (z : ℕ). z * (down d * down d)) h.1
    ∙ mul-mul-mul_comm A (down e) (down d) (down d))
    (mul-mul-mul_comm (n * up d) (down e) C (down d))
    ∙ ap (λ (z : Bool). sum f z (A * down d) t (n * up d * C) (C * down d)) h.0

-- ---- in units of 1 / L
pub add-units : (f : Format) (x y : Float) (s t : Bool) (A B L : ℕ) → 0 < L → HasValue x s A L → HasValue y t B L
    → add f x y ≡ sum f s A t B L
add-units f x nan s t A B L P h k = absurd k
add-units f x (inf u) s t A B L P h k = absurd k
add-units f x (fin u n d) s t A B L P h k =
    add-value f x s A L u n d P h
    ∙ sum_same f s (A * down d) u (n * up d * L) (L * down d) A B L (mul-pos P (down_pos d)) P
    (mul_assoc A (down d) L ∙ ap (λ (z : ℕ). A * z) (mul_comm (down d) L))
    (ap (λ (z : ℕ). z * L) k.1 ∙ mul_assoc B (down d) L ∙ ap (λ (z : ℕ). B * z) (mul_comm (down d) L))
    ∙ ap (λ (z : Bool). sum f s A z B L) k.0

pub plus : (f : Format) (x y : Float) (A B L : ℕ) → 0 < L → HasValue x false A L → HasValue y false B L
    → add f x y ≡ round f false (A + B) L
plus f x y A B L P h k = add-units f x y false false A B L P h k ∙ sum_like f false false A B L refl

pub minus : (f : Format) (x y : Float) (A B L : ℕ) → 0 < L → B ≤ A → HasValue x false A L → HasValue y false B L
    → sub f x y ≡ round f false (A - B) L
unfolding sub
minus f x y A B L P o h k =
    add-units f x (neg y) false true A B L P h (neg_value y false B L k)
    ∙ sum_is f false A true B L
    ∙ ap (λ (z : Bool). round f (cond z true false) (cond z (B - A) (A - B)) L) (le-ltb A B o)
