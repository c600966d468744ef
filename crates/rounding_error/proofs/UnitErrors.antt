-- What `round` keeps of a fraction n / c of units: w * 2 ^ k units. The error is at most half of 2 ^ j if the fraction
-- is at most 2 ^ (prec + j), and at most a part in 2 ^ prec of it if it has prec digits. The nearest whole number is
-- off by at most a half. Assumes nothing.
use mathlib.Core.Path.{◌≡◌, sym, ap, ◌∙◌, subst}
use mathlib.Core.Logic.{◌⊎◌, inl, inr}
use mathlib.Core.Bool.{Bool, true, false, not}
use Prim.Native.Nat.{ℕ, suc, ◌+◌, ◌-◌, ◌*◌, ◌/◌, ◌^◌, ◌≤◌, ◌<◌}
use native.Mathlib.Nat.{pow-suc, add-sub_of_le, le-div_iff_mul-le, add-zero, add-suc, mul-lt-mul_of_pos_left, le_trans}
use native.Mathlib.Nat.{le_of_eq, le_of_lt, lt_of_lt_of_le, lt_of_le_of_lt, eq-or-lt_of_le, mul-le-mul_left, mul-pos}
use native.Mathlib.Nat.{mul_assoc, mul_comm, div-lt_iff_lt-mul}
use native.Mathlib.Omega.{arith}
use lib.Dec.{T, leb, leb→le, nleb→lt}
use lib.Pow.{pow-add, pow_pos, pow_mono, pow-lt}
use lib.Ieee.{size}
use lib.Ieee.Digits.{size-le, size-lt, size_reaches}
use lib.Ieee.Nearest.{closest}
use lib.Ieee.Order.{drop, kept}
use Rattle.rounding.proofs.WithinHalfDivisor.{closest-near, closest-multiple}

-- w units are within 2 ^ j / 2 of n / c.
pub record Near (w n c j : ℕ) : Type 0 where
  pub above : w * c * 2 ≤ n * 2 + c * 2 ^ j
  pub below : n * 2 ≤ w * c * 2 + c * 2 ^ j

few : (z p j : ℕ) → z ≤ p + j → z - p ≤ j
few z p j h = omega arith

dropped : (p n c j : ℕ) → 0 < c → n < c * 2 ^ (p + j) → drop p n c ≤ j
dropped p n c j C h =
    few (size (n / c)) p j (size-le (n / c) (p + j) ((div-lt_iff_lt-mul C).1 (rw (mul_comm (2 ^ (p + j)) c) h)))

near-lt : (p n c j : ℕ) → 0 < c → n < c * 2 ^ (p + j) → Near (kept p n c * 2 ^ drop p n c) n c j
near-lt p n c j C h =
    let k = drop p n c in
    let e = closest-near n (c * 2 ^ k) (mul-pos C (pow_pos k)) in
    go (kept p n c) (2 ^ k) e.0 e.1 (mul-le-mul_left c (pow_mono (dropped p n c j C h)))
  where
    go : (w t : ℕ) → w * (c * t) * 2 ≤ n * 2 + c * t → n * 2 ≤ w * (c * t) * 2 + c * t → c * t ≤ c * 2 ^ j
        → Near (w * t) n c j
    go w t a b m = omega arith

-- At 2 ^ (prec + j) itself nothing is lost.
near-eq : (p n c j : ℕ) → 0 < p → 0 < c → n ≡ c * 2 ^ (p + j) → Near (kept p n c * 2 ^ drop p n c) n c j
near-eq p n c j P C h =
    let k = drop p n c in
    let K : k ≤ suc j =
    dropped p n c (suc j) C
    (lt_of_le_of_lt (le_of_eq h) (mul-lt-mul_of_pos_left (pow-lt (le_of_eq (sym (add-suc p j)))) C)) in
    let q = 2 ^ (p + j - k) in
    let qk : q * 2 ^ k ≡ 2 ^ (p + j) = sym (pow-add 2 (p + j - k) k) ∙ ap (λ (x : ℕ). 2 ^ x) (back k K) in
    let nq : n ≡ q * (c * 2 ^ k) = h ∙ ap (λ (x : ℕ). c * x) (sym qk) ∙ simp (mul_assoc, mul_comm) in
    let w : kept p n c ≡ q =
    ap (λ (x : ℕ). closest x (c * 2 ^ k)) nq ∙ closest-multiple q (c * 2 ^ k) (mul-pos C (pow_pos k)) in
    let v : kept p n c * 2 ^ k * c ≡ n =
    ap (λ (x : ℕ). x * 2 ^ k * c) w ∙ ap (λ (x : ℕ). x * c) qk ∙ mul_comm (2 ^ (p + j)) c ∙ sym h in
    omega arith
  where
    back : (k : ℕ) → k ≤ suc j → p + j - k + k ≡ p + j
    back k h = omega arith

pub near : (p n c j : ℕ) → 0 < p → 0 < c → n ≤ c * 2 ^ (p + j) → Near (kept p n c * 2 ^ drop p n c) n c j
near p n c j P C h = elim (eq-or-lt_of_le h) [ inl e ↦ near-eq p n c j P C e | inr l ↦ near-lt p n c j C l ]

-- ---- w units are within n / c / v of n / c
pub record Part (v w n c : ℕ) : Type 0 where
  pub above : v * (w * c) ≤ v * n + n
  pub below : v * n ≤ v * (w * c) + n

part : (p w n c j : ℕ) → 0 < p → 2 ^ (p - 1) * 2 ^ j * c ≤ n → Near w n c j → Part (2 ^ p) w n c
part p w n c j P l h =
    rw (ap (λ (x : ℕ). 2 ^ x) (fix p P) ∙ pow-suc 2 (p - 1)) (go (2 ^ (p - 1)) (2 ^ j) l h.above h.below)
  where
    fix : (p : ℕ) → 0 < p → p ≡ suc (p - 1)
    fix p h = omega arith

    go : (u t : ℕ) → u * t * c ≤ n → w * c * 2 ≤ n * 2 + c * t → n * 2 ≤ w * c * 2 + c * t → Part (u * 2) w n c
    go u t l a b = omega (arith, mul-le-mul_left u a, mul-le-mul_left u b)

pub near-part : (p n c : ℕ) → 0 < p → 0 < c
    → Part (2 ^ p) (kept p n c * 2 ^ drop p n c) n c ⊎ Near (kept p n c * 2 ^ drop p n c) n c 0
near-part p n c P C = go (leb p (size (n / c))) (leb→le p (size (n / c))) (nleb→lt p (size (n / c)))
  where
    top : (z j : ℕ) → z ≡ p + j → p - 1 + j < z
    top z j e = omega arith

    above : (j : ℕ) → n / c < 2 ^ (p + j) → n < c * 2 ^ (p + j)
    above j h = rw (mul_comm c (2 ^ (p + j))) ((div-lt_iff_lt-mul C).0 h)

    go : (b : Bool) → (T b → p ≤ size (n / c)) → (T (not b) → size (n / c) < p)
        → Part (2 ^ p) (kept p n c * 2 ^ drop p n c) n c ⊎ Near (kept p n c * 2 ^ drop p n c) n c 0
    go true h k =
        let z = size (n / c) in
        let j = z - p in
        let e : z ≡ p + j = sym (add-sub_of_le (h tt)) in
        inl (part p (kept p n c * 2 ^ drop p n c) n c j P
        ((le-div_iff_mul-le C).0 (le_trans (le_of_eq (sym (pow-add 2 (p - 1) j)))
        (size_reaches (n / c) (p - 1 + j) (top z j e))))
        (near-lt p n c j C (above j (subst (λ (x : ℕ). n / c < 2 ^ x) e (size-lt (n / c))))))
    go false h k =
        inr (near p n c 0 P C (le_of_lt (above 0 (lt_of_lt_of_le (size-lt (n / c))
        (pow_mono (le_trans (le_of_lt (k tt)) (le_of_eq (sym (add-zero p)))))))))
