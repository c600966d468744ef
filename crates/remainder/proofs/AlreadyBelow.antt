-- A number that is not below zero, and is below the divisor, is its own remainder. Assumes nothing.
use Rattle.std.proofs.Common.{◌≡◌, ℕ, zero, suc, ◌+◌, ◌*◌, ◌%◌, ◌<◌, Bool, true, false, not, T, ℤ, sym, refl, ap, ◌∙◌}
use Rattle.std.proofs.Common.{true≢false, mod-eq_of_lt, mul_assoc, mul-pos, zero-mul, mul_right_comm, arith, ltb→lt}
use Rattle.std.proofs.Common.{nltb→le}
use lib.Dec.{not_T, eqb-suc-zero}
use lib.Ieee.{Float, nan, inf, fin, Format, binary64, up, down, below, round, rem, lt, le, fits}
use lib.Ieee.Fits.{down_pos}
use lib.Ieee.Bits.{is_false}
use Rattle.interval.proofs.Signed.{under, strictly}
use Rattle.remainder.specs.Euclid as euclid
use Rattle.remainder.specs.Euclid.{rem_euclid}
use Rattle.rounding.proofs.RoundsToItself.{round-own}

-- ---- the order is strict one way only
pub apart : (x y : Float) → T (le x y) → T (lt y x) → ⊥
unfolding le lt
apart nan y h k = h
apart (inf s) nan h k = h
apart (inf true) (inf true) h k = k
apart (inf true) (inf false) h k = k
apart (inf false) (inf true) h k = h
apart (inf false) (inf false) h k = k
apart (inf true) (fin t n d) h k = k
apart (inf false) (fin t n d) h k = h
apart (fin s m e) nan h k = h
apart (fin s m e) (inf true) h k = h
apart (fin s m e) (inf false) h k = k
apart (fin s m e) (fin t n d) h k =
    omega (arith, under (fin s m e) (fin t n d) tt tt h, strictly (fin t n d) (fin s m e) tt tt k)

-- ---- below the divisor
smaller : (s t : Bool) (a b : ℕ) → (s ≡ true → a ≡ 0) → T (below s a t b) → a < b
smaller false false a b z h = ltb→lt a b h
smaller false true a b z h = absurd h
smaller true false a b z h = omega (arith, z refl, ltb→lt 0 (a + b) h)
smaller true true a b z h = omega (arith, z refl, ltb→lt b a h)

none : (s : Bool) (m : ℕ) (e : ℤ) (k : ℕ) → T (not (lt (fin s m e) euclid.zero)) → s ≡ true → m * up e * k ≡ 0
unfolding lt
none false m e k h q = absurd (true≢false (sym q))
none true m e k h q =
    let z : m * up e ≡ 0 = omega (arith, nltb→le 0 (m * up e * 1 + 0 * 1 * down e) h) in
    ap (λ (x : ℕ). x * k) z ∙ zero-mul k

pub rem_below : (f : Format) (x y : Float) → T (fits f x) → T (not (lt x euclid.zero)) → T (lt x y) → rem f x y ≡ x
unfolding rem lt
rem_below f nan y p z h = absurd h
rem_below f (inf true) y p z h = absurd z
rem_below f (inf false) nan p z h = absurd h
rem_below f (inf false) (inf t) p z h = absurd h
rem_below f (inf false) (fin t n d) p z h = absurd h
rem_below f (fin s m e) nan p z h = absurd h
rem_below f (fin s m e) (inf t) p z h = refl
rem_below f (fin s m e) (fin t n d) p z h =
    go n (smaller s t (m * up e * down d) (n * up d * down e) (none s m e (down d) z) h)
  where
    own : (b : ℕ) → m * up e * down d < b → round f s (m * up e * down d % b) (down e * down d) ≡ fin s m e
    own b l =
        rw (mod-eq_of_lt l) (round-own f (fin s m e) s (m * up e * down d) (down e * down d) p
        (mul-pos (down_pos e) (down_pos d))
        (refl, sym (mul_assoc (m * up e) (down e) (down d)) ∙ mul_right_comm (m * up e) (down e) (down d)))

    go : (n : ℕ) → m * up e * down d < n * up d * down e → rem f (fin s m e) (fin t n d) ≡ fin s m e
    go zero l = absurd (omega (arith, l, zero-mul (up d), zero-mul (down e)))
    go (suc n) l = rw (eqb-suc-zero n) (own (suc n * up d * down e) l)

-- ---- rem_euclid does not change what is not below zero
pub kept : (x : Float) → T (le euclid.zero x) → lt x euclid.zero ≡ false
kept x h = is_false (lt x euclid.zero) (not_T (lt x euclid.zero) (apart euclid.zero x h))

pub euclid-below : (x y : Float) → T (fits binary64 x) → T (le euclid.zero x) → T (lt x y) → rem_euclid x y ≡ x
unfolding rem_euclid
euclid-below x y p z h = rw (rem_below binary64 x y p (not_T (lt x euclid.zero) (apart euclid.zero x z)) h, kept x z)
