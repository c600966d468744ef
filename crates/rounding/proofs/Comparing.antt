-- Comparisons of values that are given as multiples of 1 / L, and what a comparison shows of any value: that it is
-- finite, or not a NaN. Assumes nothing.
use mathlib.Core.Path.{◌≡◌, refl, sym, ap, ◌∙◌}
use mathlib.Core.Bool.{Bool, true, false, not, ◌&&◌, beq, ◌||◌, true≢false, false≢true}
use Prim.Native.Nat.{ℕ, ◌+◌, ◌*◌, ◌<◌}
use native.Mathlib.Nat.{mul_comm, mul_assoc, mul_right_comm, mul-pos, add-mul, zero-mul}
use lib.Dec.{T, eqb}
use lib.Ieee.{Float, nan, inf, fin, binary64, up, down, of_bits, neg, lt, eq, is_nan, div, ne, below, level}
use lib.Ieee.Fits.{down_pos}
use lib.Ieee.Exact.{HasValue}
use lib.Ieee.Scale.{finite}
use Rattle.rounding.proofs.NumberOrders.{cross-eqb, cross-ltb}

side : (v dd L A de : ℕ) → v * L ≡ A * de → v * dd * L ≡ A * (de * dd)
side v dd L A de h = mul_right_comm v dd L ∙ ap (λ (z : ℕ). z * dd) h ∙ mul_assoc A de dd

side' : (w de L B dd : ℕ) → w * L ≡ B * dd → w * de * L ≡ B * (de * dd)
side' w de L B dd h = side w de L B dd h ∙ ap (λ (z : ℕ). B * z) (mul_comm dd de)

below-same : (s t : Bool) (a b c a' b' c' : ℕ) → 0 < c → 0 < c' → a * c' ≡ a' * c → b * c' ≡ b' * c
    → below s a t b ≡ below s a' t b'
below-same false false a b c a' b' c' C C' p q = cross-ltb a b c a' b' c' C C' p q
below-same false true a b c a' b' c' C C' p q = refl
below-same true false a b c a' b' c' C C' p q =
    cross-ltb 0 (a + b) c 0 (a' + b') c' C C' (zero-mul c' ∙ sym (zero-mul c))
    (add-mul a b c' ∙ ap (λ (z : ℕ). z + b * c') p ∙ ap (λ (z : ℕ). a' * c + z) q ∙ sym (add-mul a' b' c))
below-same true true a b c a' b' c' C C' p q = cross-ltb b a c b' a' c' C C' q p

pub lt-units : (x y : Float) (s t : Bool) (A B L : ℕ) → 0 < L → HasValue x s A L → HasValue y t B L
    → lt x y ≡ below s A t B
unfolding lt
lt-units nan y s t A B L P h k = absurd h
lt-units (inf u) y s t A B L P h k = absurd h
lt-units (fin u m e) nan s t A B L P h k = absurd k
lt-units (fin u m e) (inf w) s t A B L P h k = absurd k
lt-units (fin u m e) (fin w n d) s t A B L P h k =
    below-same u w (m * up e * down d) (n * up d * down e) (down e * down d) A B L (mul-pos (down_pos e) (down_pos d)) P
    (side (m * up e) (down d) L A (down e) h.1) (side' (n * up d) (down e) L B (down d) k.1)
    ∙ ap (λ (z : Bool). below z A w B) h.0
    ∙ ap (λ (z : Bool). below s A z B) k.0

pub eq-units : (x y : Float) (s t : Bool) (A B L : ℕ) → 0 < L → HasValue x s A L → HasValue y t B L
    → eq x y ≡ level s A t B
unfolding eq
eq-units nan y s t A B L P h k = absurd h
eq-units (inf u) y s t A B L P h k = absurd h
eq-units (fin u m e) nan s t A B L P h k = absurd k
eq-units (fin u m e) (inf w) s t A B L P h k = absurd k
eq-units (fin u m e) (fin w n d) s t A B L P h k =
    let a = m * up e * down d in
    let c = down e * down d in
    let C : 0 < c = mul-pos (down_pos e) (down_pos d) in
    let p : a * L ≡ A * c = side (m * up e) (down d) L A (down e) h.1 in
    ap (λ (z : Bool). z && (beq u w || eqb a 0))
    (cross-eqb a (n * up d * down e) c A B L C P p (side' (n * up d) (down e) L B (down d) k.1))
    ∙ ap (λ (z : Bool). eqb A B && (beq u w || z)) (cross-eqb a 0 c A 0 L C P p (zero-mul L ∙ sym (zero-mul c)))
    ∙ ap (λ (z : Bool). eqb A B && (beq z w || eqb A 0)) h.0
    ∙ ap (λ (z : Bool). eqb A B && (beq s z || eqb A 0)) k.0

-- ---- only a NaN differs from itself
pub differs-no-nan : (x : Float) → ne x x ≡ false → T (not (is_nan x))
unfolding ne is_nan
differs-no-nan nan h = absurd (true≢false h)
differs-no-nan (inf s) h = tt
differs-no-nan (fin s m e) h = tt

-- ---- finite or not, by two comparisons with the infinities 1.0 / 0.0 and -1.0 / 0.0
plus-inf : div binary64 (of_bits binary64 0x3ff0_0000_0000_0000) (of_bits binary64 0) ≡ inf false
unfolding div of_bits
plus-inf = refl

minus-inf : div binary64 (neg (of_bits binary64 0x3ff0_0000_0000_0000)) (of_bits binary64 0) ≡ inf true
unfolding div of_bits neg
minus-inf = refl

finite-yes : (x : Float) → lt x (inf false) ≡ true → lt (inf true) x ≡ finite x
unfolding lt
finite-yes nan h = refl
finite-yes (inf true) h = refl
finite-yes (inf false) h = absurd (false≢true h)
finite-yes (fin s m e) h = refl

finite-no : (x : Float) → lt x (inf false) ≡ false → false ≡ finite x
unfolding lt
finite-no nan h = refl
finite-no (inf s) h = refl
finite-no (fin s m e) h = absurd (true≢false h)

pub is-finite-yes : (x : Float) → lt x (div binary64 (of_bits binary64 0x3ff0_0000_0000_0000) (of_bits binary64 0))
    ≡ true
    → lt (div binary64 (neg (of_bits binary64 0x3ff0_0000_0000_0000)) (of_bits binary64 0)) x ≡ finite x
is-finite-yes x h = ap (λ (z : Float). lt z x) minus-inf ∙ finite-yes x (ap (lt x) (sym plus-inf) ∙ h)

pub is-finite-no : (x : Float) → lt x (div binary64 (of_bits binary64 0x3ff0_0000_0000_0000) (of_bits binary64 0))
    ≡ false
    → false ≡ finite x
is-finite-no x h = finite-no x (ap (lt x) (sym plus-inf) ∙ h)
