-- `units f s q k` is q * 2 ^ k of the format's smallest values: whether it is finite, and that its pattern is the sign
-- and k * hid + q, also if q is 2 ^ prec. Assumes nothing.
use mathlib.Core.Path.{◌≡◌, refl, sym, ap, ◌∙◌, subst}
use mathlib.Core.Logic.{◌⊎◌, inl, inr}
use mathlib.Core.Bool.{Bool, cond}
use Prim.Native.Nat.{ℕ, zero, suc, ◌+◌, ◌-◌, ◌*◌, ◌/◌, ◌^◌, ◌≤◌, ◌<◌}
use native.Mathlib.Nat.{le_refl, le_trans, le_of_eq, zero-lt-suc, mul-one, mul-le-mul_right, add-mul, eq-or-lt_of_le}
use native.Mathlib.Nat.{two-pow-succ, mul-add, mul-div_cancel, suc-mul, le-add_right, add_assoc}
use native.Mathlib.Omega.{arith}
use lib.IntN.{ℤ}
use lib.Pow.{pow-add, pow-lt, shl_lt, shl-shr}
use lib.Ieee.{Float, nan, inf, fin, Format, up, down, units, to_bits, prec, low, size, odd, hid, top, ones}
use lib.Ieee.Digits.{size-le}
use lib.Ieee.Fits.{down_pos}
use lib.Ieee.Exact.{HasValue}
use lib.Ieee.Scale.{overflow}
use borrow.Author.Tests.{lt-ltb, le-ltb}
use Rattle.rounding.proofs.DroppedDigits.{prec-pos, size-at}

pub units-finite : (f : Format) (s : Bool) (q k : ℕ) → q * 2 ^ k < overflow f
    → units f s q k ≡ odd (suc (prec f)) s q k (low f)
unfolding units
units-finite f s q k h =
    ap (λ (b : Bool). cond b (odd (suc (prec f)) s q k (low f)) (inf s)) (lt-ltb (q * 2 ^ k) (overflow f) h)

pub units-over : (f : Format) (s : Bool) (q k : ℕ) → overflow f ≤ q * 2 ^ k → units f s q k ≡ inf s
unfolding units
units-over f s q k h =
    ap (λ (b : Bool). cond b (odd (suc (prec f)) s q k (low f)) (inf s)) (le-ltb (q * 2 ^ k) (overflow f) h)

-- ---- 2 ^ prec is twice the weight of the leading digit
pub twice_hid : (p : ℕ) → 0 < p → 2 ^ p ≡ 2 ^ (p - 1) + 2 ^ (p - 1)
twice_hid p h = ap (λ (x : ℕ). 2 ^ x) (omega arith) ∙ two-pow-succ (p - 1)

pub hid-le : (f : Format) → hid f ≤ 2 ^ prec f
hid-le f = le_trans (le-add_right (hid f) (hid f)) (le_of_eq (sym (twice_hid (prec f) (prec-pos f))))

pub up-hid : (f : Format) (k : ℕ) → hid f * 2 ^ suc k ≡ 2 ^ prec f * 2 ^ k
up-hid f k =
    ap (λ (z : ℕ). hid f * z) (two-pow-succ k)
    ∙ mul-add (hid f) (2 ^ k) (2 ^ k)
    ∙ sym (add-mul (hid f) (hid f) (2 ^ k))
    ∙ ap (λ (z : ℕ). z * 2 ^ k) (sym (twice_hid (prec f) (prec-pos f)))

pub carried : (f : Format) (k : ℕ) → suc k * hid f + hid f ≡ k * hid f + 2 ^ prec f
carried f k =
    let a : suc k * hid f ≡ k * hid f + hid f = suc-mul k (hid f) in
    let b : 2 ^ prec f ≡ hid f + hid f = twice_hid (prec f) (prec-pos f) in
    omega arith

-- ---- the pattern of a value that is a / 2 ^ low
pub to_bits_inf : (f : Format) (s : Bool) → to_bits f (inf s) ≡ cond s (top f) 0 + ones f * hid f
unfolding to_bits
to_bits_inf f s = refl

to_bits_is : (f : Format) (s : Bool) (m : ℕ) (e : ℤ) (a : ℕ) → m * up e * 2 ^ low f ≡ a * down e
    → to_bits f (fin s m e) ≡ cond s (top f) 0 + (size a - prec f) * hid f + a / 2 ^ (size a - prec f)
unfolding to_bits
to_bits_is f s m e a h =
    ap (λ (x : ℕ). cond s (top f) 0 + (size x - prec f) * hid f + x / 2 ^ (size x - prec f))
    (ap (λ (x : ℕ). x / down e) h ∙ mul-div_cancel a (down_pos e))

pub to_bits-value : (f : Format) (v : Float) (s : Bool) (a : ℕ) → HasValue v s a (2 ^ low f)
    → to_bits f v ≡ cond s (top f) 0 + (size a - prec f) * hid f + a / 2 ^ (size a - prec f)
to_bits-value f nan s a h = absurd h
to_bits-value f (inf t) s a h = absurd h
to_bits-value f (fin t m e) s a h =
    to_bits_is f t m e a h.1
    ∙ ap (λ (x : Bool). cond x (top f) 0 + (size a - prec f) * hid f + a / 2 ^ (size a - prec f)) h.0

to_bits-at : (f : Format) (v : Float) (s : Bool) (a k q : ℕ) → HasValue v s a (2 ^ low f) → size a - prec f ≡ k
    → a / 2 ^ k ≡ q → to_bits f v ≡ cond s (top f) 0 + (k * hid f + q)
to_bits-at f v s a k q h K Q =
    to_bits-value f v s a h
    ∙ ap (λ (z : ℕ). cond s (top f) 0 + z * hid f + a / 2 ^ z) K
    ∙ ap (λ (z : ℕ). cond s (top f) 0 + k * hid f + z) Q
    ∙ add_assoc (cond s (top f) 0) (k * hid f) q

-- ---- the pattern of q * 2 ^ k units
bits-low : (f : Format) (v : Float) (s : Bool) (q : ℕ) → q < 2 ^ prec f → HasValue v s (q * 2 ^ 0) (2 ^ low f)
    → to_bits f v ≡ cond s (top f) 0 + (0 * hid f + q)
bits-low f v s q h val =
    let l : size (q * 2 ^ 0) ≤ prec f =
    size-le (q * 2 ^ 0) (prec f) (subst (λ (z : ℕ). z < 2 ^ prec f) (sym (mul-one q)) h) in
    to_bits-at f v s (q * 2 ^ 0) 0 q val (omega arith) (shl-shr q 0)

bits-mid : (f : Format) (v : Float) (s : Bool) (q k : ℕ) → hid f ≤ q → q < 2 ^ prec f
    → HasValue v s (q * 2 ^ k) (2 ^ low f) → to_bits f v ≡ cond s (top f) 0 + (k * hid f + q)
bits-mid f v s q k lo hi val =
    to_bits-at f v s (q * 2 ^ k) k q val
    (size-at (q * 2 ^ k) (prec f) k (prec-pos f)
    (le_trans (le_of_eq (pow-add 2 (prec f - 1) k)) (mul-le-mul_right (2 ^ k) lo)) (shl_lt (prec f) k hi))
    (shl-shr q k)

pub bits-units : (f : Format) (v : Float) (s : Bool) (q k : ℕ) → q ≤ 2 ^ prec f → (0 < k → hid f ≤ q)
    → HasValue v s (q * 2 ^ k) (2 ^ low f) → to_bits f v ≡ cond s (top f) 0 + (k * hid f + q)
bits-units f v s q k Q N val = go (eq-or-lt_of_le Q) k N val
  where
    at_top : (k : ℕ) → HasValue v s (2 ^ prec f * 2 ^ k) (2 ^ low f)
        → to_bits f v ≡ cond s (top f) 0 + (k * hid f + 2 ^ prec f)
    at_top k val =
        bits-mid f v s (hid f) (suc k) (le_refl (hid f)) (pow-lt (one_less (prec f) (prec-pos f)))
        (subst (λ (z : ℕ). HasValue v s z (2 ^ low f)) (sym (up-hid f k)) val)
        ∙ ap (λ (z : ℕ). cond s (top f) 0 + z) (carried f k)
      where
        one_less : (p : ℕ) → 0 < p → p - 1 < p
        one_less p h = omega arith

    go : (q ≡ 2 ^ prec f) ⊎ (q < 2 ^ prec f) → (k : ℕ) → (0 < k → hid f ≤ q) → HasValue v s (q * 2 ^ k) (2 ^ low f)
        → to_bits f v ≡ cond s (top f) 0 + (k * hid f + q)
    go (inl e) k N val =
        at_top k (subst (λ (z : ℕ). HasValue v s (z * 2 ^ k) (2 ^ low f)) e val)
        ∙ ap (λ (z : ℕ). cond s (top f) 0 + (k * hid f + z)) (sym e)
    go (inr l) zero N val = bits-low f v s q l val
    go (inr l) (suc k) N val = bits-mid f v s q (suc k) (N (zero-lt-suc k)) l val
