-- For every format and width, a whole number times a power of two is rounded once, so the product in the code is what
-- the sample means. Assumes nothing.
use mathlib.Core.Path.{◌≡◌, refl, sym, ap, ◌∙◌}
use mathlib.Core.Bool.{Bool, true, false, true≢false, cond}
use Prim.Native.Nat.{ℕ, zero, suc, ◌-◌, ◌*◌, ◌%◌, ◌^◌, ◌≤◌, ◌<◌}
use native.Mathlib.Nat.{mul_assoc, mul-pos, mod-lt}
use native.Mathlib.Omega.{arith}
use lib.Dec.{T, le→leb, lt→ltb}
use lib.IntN.{ℤ, pos, negsuc, neg_ℤ}
use lib.Signed.{mag}
use lib.Pow.{pow_pos, pow_mono}
use lib.Ieee.{Float, nan, inf, fin, Format, prec, up, down, unlike, round, mul, of_int, in_float}
use lib.Ieee.Back.{round_whole}
use lib.Ieee.Exact.{HasValue}
use lib.Ieee.Fits.{down_pos}
use lib.Ieee.Scale.{round_same}
use Rattle.whole_samples.specs.Whole.{negative, size, signed, whole_of}
use Rattle.whole_samples.proofs.Exact.{small, wide}

-- The format holds a whole number below 2 ^ 23 exactly, as the cast requires.
pub held : (f : Format) (z : ℤ) → mag z < 2 ^ 23 → T (in_float f z)
unfolding in_float
held f (pos n) h = le→leb n (2 ^ prec f) (omega (arith, wide f))
held f (negsuc n) h = lt→ltb n (2 ^ prec f) (omega (arith, wide f))

own_sign : (t : Bool) → unlike t false ≡ t
own_sign true = refl
own_sign false = refl

times : (f : Format) (x : Float) (s : Bool) (d k : ℕ) → HasValue x s d 1 → mul f x (fin false 1 (negsuc k))
    ≡ round f s d (2 ^ suc k)
unfolding mul
times f nan s d k h = absurd h
times f (inf t) s d k h = absurd h
times f (fin t m e) s d k h =
    ap (λ (u : Bool). round f u (m * up e * (1 * 1)) (down e * 2 ^ suc k)) (own_sign t ∙ h.0)
    ∙ round_same f s (m * up e * 1) (down e * 2 ^ suc k) d (2 ^ suc k) (mul-pos (down_pos e) (pow_pos (suc k)))
    (pow_pos (suc k))
    (ap (λ (a : ℕ). a * 2 ^ suc k) h.1 ∙ mul_assoc d (down e) (2 ^ suc k))

-- The value of a whole number, from its sign and its magnitude.
as-float : (f : Format) (t : Bool) (a : ℕ) → a ≤ 2 ^ prec f → (t ≡ true → 0 < a)
    → HasValue (of_int f (cond t (neg_ℤ (pos a)) (pos a))) t a 1
unfolding of_int
as-float f true zero h p = absurd (omega (arith, p refl))
as-float f true (suc a) h p = round_whole f true (suc a) h
as-float f false a h p = round_whole f false a h

not_none : (w n : ℕ) (t : Bool) → t ≡ true → 0 < cond t (2 ^ w - n % 2 ^ w) (n % 2 ^ w)
not_none w n true e = omega (arith, mod-lt n (pow_pos w))
not_none w n false e = absurd (true≢false (sym e))

pub product : (f : Format) (w k n : ℕ) {z : ℤ} {y : Float} → w ≤ 24 → w - 1 ≡ suc k → z ≡ signed w n → y
    ≡ fin false 1 (negsuc k) → mul f (of_int f z) y ≡ whole_of f w n
unfolding whole_of
product f w k n h e p q =
    let l : w - 1 ≤ 23 = omega arith in
    let top : 2 ^ (w - 1) ≤ 2 ^ 23 = pow_mono l in
    let few : size w n ≤ 2 ^ prec f = omega (arith, small w n (omega arith), wide f) in
    rw (p, q)
    (times f (of_int f (signed w n)) (negative w n) (size w n) k
    (as-float f (negative w n) (size w n) few (not_none w n (negative w n)))
    ∙ ap (λ (v : ℕ). round f (negative w n) (size w n) (2 ^ v)) (sym e))
