-- How many digits `round` drops, and so what it is: a number of prec digits, or 2 ^ prec, of the unit that is left.
-- Assumes nothing.
use mathlib.Core.Path.{◌≡◌, sym, ap, ◌∙◌, subst}
use mathlib.Core.Bool.{Bool}
use Prim.Native.Nat.{ℕ, zero, suc, ◌+◌, ◌-◌, ◌*◌, ◌/◌, ◌%◌, ◌^◌, ◌≤◌, ◌<◌, compare}
use native.Mathlib.Nat.{le_trans, le_of_eq, lt_of_lt_of_le, lt_of_le_of_lt, zero-lt-suc, mul-one, mul_comm, mul_assoc}
use native.Mathlib.Nat.{mul-pos, mul-le-mul_right, mul-lt-mul_of_pos_right, le_antisymm, le-div_iff_mul-le}
use native.Mathlib.Nat.{div-lt_iff_lt-mul, div-div-eq-div-mul}
use native.Mathlib.Omega.{arith}
use lib.Pow.{pow-add, pow_pos}
use lib.Ieee.{Format, units, round, prec, low, size, hid}
use lib.Ieee.Digits.{size-lt, size-le, size_reaches}
use lib.Ieee.Fits.{round_is, two, two-le_pos, nearest-le, kept-lt}
use lib.Ieee.Nearest.{closest, closest_same, nearest-ge}
use lib.Ieee.Order.{drop, kept}
use Rattle.rounding.proofs.NumberOrders.{pow_lt_back}

pub prec-pos : (f : Format) → 0 < prec f
prec-pos f = two-le_pos (prec f) (two f)

pub size_in : (w j : ℕ) → 2 ^ j ≤ w → w < 2 ^ suc j → size w ≡ suc j
size_in w j lo hi = le_antisymm (size-le w (suc j) hi) (pow_lt_back j (size w) (lt_of_le_of_lt lo (size-lt w)))

-- A number of exactly p + k digits has k more than p.
pub size-at : (w p k : ℕ) → 0 < p → 2 ^ (p - 1 + k) ≤ w → w < 2 ^ (p + k) → size w - p ≡ k
size-at w p k P lo hi =
    let e : p + k ≡ suc (p - 1 + k) = omega arith in
    let s : size w ≡ suc (p - 1 + k) = size_in w (p - 1 + k) lo (subst (λ (z : ℕ). w < 2 ^ z) e hi) in
    omega arith

pub drop-normal : (p n den k : ℕ) → 0 < p → 0 < den → 2 ^ (p - 1 + k) * den ≤ n → n < 2 ^ (p + k) * den
    → drop p n den ≡ k
drop-normal p n den k P D lo hi = size-at (n / den) p k P ((le-div_iff_mul-le D).1 lo) ((div-lt_iff_lt-mul D).1 hi)

pub drop-low : (p n den : ℕ) → 0 < den → n < 2 ^ p * den → drop p n den ≡ 0
drop-low p n den D hi =
    let h : size (n / den) ≤ p = size-le (n / den) p ((div-lt_iff_lt-mul D).1 hi) in
    omega arith

-- ---- `round`, where that number is known
pub round-normal : (f : Format) (s : Bool) (num den k : ℕ) → 0 < den → 2 ^ (prec f - 1 + k) * den ≤ num * 2 ^ low f
    → num * 2 ^ low f < 2 ^ (prec f + k) * den
    → round f s num den ≡ units f s (closest (num * 2 ^ low f) (den * 2 ^ k)) k
round-normal f s num den k D lo hi =
    round_is f s num den
    ∙ ap (λ (z : ℕ). units f s (closest (num * 2 ^ low f) (den * 2 ^ z)) z)
    (drop-normal (prec f) (num * 2 ^ low f) den k (prec-pos f) D lo hi)

pub round-low : (f : Format) (s : Bool) (num den : ℕ) → 0 < den → num * 2 ^ low f < 2 ^ prec f * den
    → round f s num den ≡ units f s (closest (num * 2 ^ low f) (den * 2 ^ 0)) 0
round-low f s num den D hi =
    round_is f s num den
    ∙ ap (λ (z : ℕ). units f s (closest (num * 2 ^ low f) (den * 2 ^ z)) z)
    (drop-low (prec f) (num * 2 ^ low f) den D hi)

-- In either case k digits are dropped; none if k is 0.
pub move : (p k den : ℕ) → 2 ^ (p + k) * den ≡ 2 ^ p * (den * 2 ^ k)
move p k den =
    ap (λ (z : ℕ). z * den) (pow-add 2 p k)
    ∙ mul_assoc (2 ^ p) (2 ^ k) den
    ∙ ap (λ (z : ℕ). 2 ^ p * z) (mul_comm (2 ^ k) den)

pub round-at : (f : Format) (s : Bool) (num den k : ℕ) → 0 < den → (0 < k → hid f * (den * 2 ^ k) ≤ num * 2 ^ low f)
    → num * 2 ^ low f < 2 ^ prec f * (den * 2 ^ k)
    → round f s num den ≡ units f s (closest (num * 2 ^ low f) (den * 2 ^ k)) k
round-at f s num den zero D lo hi =
    round-low f s num den D (subst (λ (z : ℕ). num * 2 ^ low f < 2 ^ prec f * z) (mul-one den) hi)
round-at f s num den (suc k) D lo hi =
    round-normal f s num den (suc k) D (le_trans (le_of_eq (move (prec f - 1) (suc k) den)) (lo (zero-lt-suc k)))
    (lt_of_lt_of_le hi (le_of_eq (sym (move (prec f) (suc k) den))))

-- The same for v of a finer unit, 2 ^ -(low + e).
pub round-finer : (f : Format) (s : Bool) (v e k : ℕ) → (0 < k → hid f * 2 ^ (e + k) ≤ v) → v < 2 ^ prec f * 2 ^ (e + k)
    → round f s v (2 ^ (low f + e)) ≡ units f s (closest v (2 ^ (e + k))) k
round-finer f s v e k lo hi =
    let den = 2 ^ (low f + e) in
    let u = 2 ^ (e + k) in
    let l = 2 ^ low f in
    let d : den * 2 ^ k ≡ u * l =
    sym (pow-add 2 (low f + e) k) ∙ ap (λ (z : ℕ). 2 ^ z) (omega arith) ∙ pow-add 2 (e + k) (low f) in
    let part : (q : ℕ) → q * (den * 2 ^ k) ≡ q * u * l = λ q. ap (λ (z : ℕ). q * z) d ∙ sym (mul_assoc q u l) in
    round-at f s v den k (pow_pos (low f + e)) (λ K. le_trans (le_of_eq (part (hid f))) (mul-le-mul_right l (lo K)))
    (lt_of_lt_of_le (mul-lt-mul_of_pos_right hi (pow_pos (low f))) (le_of_eq (sym (part (2 ^ prec f)))))
    ∙ ap (λ (z : ℕ). units f s z k)
    (closest_same (v * l) (den * 2 ^ k) v u (mul-pos (pow_pos (low f + e)) (pow_pos k)) (pow_pos (e + k))
    (mul_assoc v l u ∙ ap (λ (z : ℕ). v * z) (mul_comm l u ∙ sym d)))

-- ---- the number that is kept has at most prec digits, or is 2 ^ prec; and at least so many if any were dropped
pub kept-le : (p n den : ℕ) → kept p n den ≤ 2 ^ p
kept-le p n den =
    let k = drop p n den in
    let u = den * 2 ^ k in
    le_trans (nearest-le (n / u) (compare (n % u * 2) u))
    (subst (λ (x : ℕ). x < 2 ^ p) (div-div-eq-div-mul n den (2 ^ k)) (kept-lt p (n / den)))

pub kept-ge : (p n den : ℕ) → 0 < p → 0 < drop p n den → 2 ^ (p - 1) ≤ kept p n den
kept-ge p n den P K =
    let k = drop p n den in
    let u = den * 2 ^ k in
    let w = n / den in
    let i : p - 1 + k < size w = omega arith in
    let a : 2 ^ (p - 1) * 2 ^ k ≤ w = le_trans (le_of_eq (sym (pow-add 2 (p - 1) k))) (size_reaches w (p - 1 + k) i) in
    le_trans
    (subst (λ (x : ℕ). 2 ^ (p - 1) ≤ x) (div-div-eq-div-mul n den (2 ^ k)) ((le-div_iff_mul-le (pow_pos k)).1 a))
    (nearest-ge (n / u) (compare (n % u * 2) u))
