-- Rounding twice. Q counts a finer unit, 1 / (h + h) of the one that is rounded to, and the fraction is less than one
-- of those from Q. If Q is no midpoint of two neighbours, then the fraction rounds as Q does. An odd Q is no midpoint.
-- Assumes nothing.
use mathlib.Core.Path.{◌≡◌, sym, ap, ◌∙◌, subst}
use mathlib.Core.Logic.{inl, inr}
use mathlib.Core.Bool.{Bool}
use Prim.Native.Nat.{ℕ, zero, suc, ◌+◌, ◌*◌, ◌/◌, ◌%◌, ◌^◌, ◌≤◌, ◌<◌}
use native.Mathlib.Nat.{le_trans, le_of_eq, lt_of_lt_of_le, lt_of_le_of_lt, mul_comm, mul_assoc, mul_left_comm}
use native.Mathlib.Nat.{mul_right_comm, mul-pos, mul-le-mul_right, mul-lt-mul_of_pos_right, lt_of_mul-lt-mul_right}
use native.Mathlib.Nat.{add-mul, eq-or-lt_of_le, two-pow-succ, mul-add, zero-mul, suc-mul, div-add-mod'}
use native.Mathlib.Omega.{arith}
use lib.Arith.{digits_mod}
use lib.Pow.{pow-add, pow_pos, pow_mono}
use lib.Ieee.{Format, units, round, prec, low, hid}
use lib.Ieee.Nearest.{closest, closest_same}
use Rattle.rounding.proofs.NearestWhole.{closest-ge, closest-le}
use Rattle.rounding.proofs.DroppedDigits.{round-finer}
use Rattle.rounding.proofs.WithinHalfUnit.{round-near}
use Rattle.rounding.proofs.WithinHalfDivisor.{closest-near}

-- What is nearest to Q lies strictly within half a unit.
strict-lo : (Q q h : ℕ) → q * (h + h) * 2 ≤ Q * 2 + (h + h) → (Q % (h + h) ≡ h → ⊥) → 0 < h → q * (h + h) < Q + h
strict-lo Q zero h a n H = lt_of_le_of_lt (le_of_eq (zero-mul (h + h))) (omega arith)
strict-lo Q (suc q) h a n H = elim (eq-or-lt_of_le l) [ inl e ↦ absurd (n (mid e)) | inr g ↦ g ]
  where
    l : suc q * (h + h) ≤ Q + h
    l = omega arith

    less : h < h + h
    less = omega arith

    mid : suc q * (h + h) ≡ Q + h → Q % (h + h) ≡ h
    mid e =
        let s : suc q * (h + h) ≡ q * (h + h) + (h + h) = suc-mul q (h + h) in
        let x : Q ≡ q * (h + h) + h = omega arith in
        ap (λ (z : ℕ). z % (h + h)) x ∙ digits_mod q less

strict-hi : (Q q h : ℕ) → Q * 2 ≤ q * (h + h) * 2 + (h + h) → (Q % (h + h) ≡ h → ⊥) → 0 < h → Q < q * (h + h) + h
strict-hi Q q h a n H =
    elim (eq-or-lt_of_le l) [ inl e ↦ absurd (n (ap (λ (z : ℕ). z % (h + h)) e ∙ digits_mod q less)) | inr g ↦ g ]
  where
    l : Q ≤ q * (h + h) + h
    l = omega arith

    less : h < h + h
    less = omega arith

module _ (f : Format) (s : Bool) (num den Q k h : ℕ) (D : 0 < den) (two-h : 2 ≤ h)
    (L : 0 < k → hid f * (h + h) ≤ Q) (M : Q < 2 ^ prec f * (h + h)) (no-mid : Q % (h + h) ≡ h → ⊥)
    (lo : Q * (den * 2 ^ k) < num * 2 ^ low f * (h + h) + den * 2 ^ k)
    (hi : num * 2 ^ low f * (h + h) < Q * (den * 2 ^ k) + den * 2 ^ k) where
  pub sticky : round f s num den ≡ units f s (closest Q (h + h)) k
  sticky =
      let d = h + h in
      let u = den * 2 ^ k in
      let n = num * 2 ^ low f in
      let q = closest Q d in
      let H : 0 < h = omega arith in
      let dp : 0 < d = omega arith in
      let near = closest-near Q d dp in
      let a : suc (q * d) * u ≤ (Q + h) * u = mul-le-mul_right u (strict-lo Q q h near.0 no-mid H) in
      let b : suc Q * u ≤ (q * d + h) * u = mul-le-mul_right u (strict-hi Q q h near.1 no-mid H) in
      let a1 : suc (q * d) * u ≡ q * d * u + u = suc-mul (q * d) u in
      let a2 : (Q + h) * u ≡ Q * u + h * u = add-mul Q h u in
      let b1 : suc Q * u ≡ Q * u + u = suc-mul Q u in
      let b2 : (q * d + h) * u ≡ q * d * u + h * u = add-mul (q * d) h u in
      let du : d * u ≡ h * u + h * u = add-mul h h u in
      round-near f s num den D q k (closest-le Q d (2 ^ prec f) dp M) (λ K. closest-ge Q d (hid f) dp (L K))
      (by-unit d (q * u * 2) (n * 2 + u) (q * d * u * 2) (n * d * 2 + d * u) (simp (mul_assoc, mul_comm, mul_left_comm))
      (part n u d 2) (omega arith))
      (by-unit d (n * 2) (q * u * 2 + u) (n * d * 2) (q * d * u * 2 + d * u) (mul_right_comm n 2 d)
      (part (q * u) u d 2 ∙ ap (λ (z : ℕ). z * 2 + d * u) (mul_right_comm q u d)) (omega arith))
      (λ K e.
      let c : hid f * d * u ≤ Q * u = mul-le-mul_right u (L K) in
      let t : u + u ≤ h * u = le_trans (le_of_eq (omega arith)) (mul-le-mul_right u two-h) in
      by-unit d (hid f * u * 4) (n * 4 + u) (hid f * d * u * 4) (n * d * 4 + d * u)
      (simp (mul_assoc, mul_comm, mul_left_comm)) (part n u d 4) (omega arith))
    where
      by-unit : (d a b a' b' : ℕ) → a * d ≡ a' → b * d ≡ b' → a' < b' → a < b
      by-unit d a b a' b' e f l =
          lt_of_mul-lt-mul_right d (lt_of_le_of_lt (le_of_eq e) (lt_of_lt_of_le l (le_of_eq (sym f))))

      part : (n u d t : ℕ) → (n * t + u) * d ≡ n * d * t + d * u
      part n u d t =
          add-mul (n * t) u d
          ∙ ap (λ (z : ℕ). z + u * d) (mul_right_comm n t d)
          ∙ ap (λ (z : ℕ). n * d * t + z) (mul_comm u d)

pub odd-mid : (Q h : ℕ) → Q % 2 ≡ 1 → h % 2 ≡ 0 → Q % (h + h) ≡ h → ⊥
odd-mid Q h o e m =
    let w = Q / (h + h) in
    let a : w * (h + h) + Q % (h + h) ≡ Q = div-add-mod' Q (h + h) in
    let b : w * (h + h) ≡ w * h + w * h = mul-add w h h in
    omega arith

-- The same in powers of two: v of the unit 2 ^ -(low + e), less than 2 ^ j from Q * 2 ^ j, rounds as that does.
pub again : (f : Format) (s : Bool) (v Q j e k c : ℕ) → j + suc c ≡ e + k → 1 ≤ c → (0 < k → hid f * 2 ^ suc c ≤ Q)
    → Q < 2 ^ prec f * 2 ^ suc c → (Q % 2 ^ suc c ≡ 2 ^ c → ⊥)
    → Q * 2 ^ j < v + 2 ^ j → v < Q * 2 ^ j + 2 ^ j
    → round f s v (2 ^ (low f + e)) ≡ round f s (Q * 2 ^ j) (2 ^ (low f + e))
again f s v Q j e k c E C L M no-mid lo hi = first ∙ sym second
  where
    d : 2 ^ suc c ≡ 2 ^ c + 2 ^ c
    d = two-pow-succ c

    first : round f s v (2 ^ (low f + e)) ≡ units f s (closest Q (2 ^ suc c)) k
    first =
        let l = 2 ^ low f in
        let W = l * 2 ^ suc c in
        let u = 2 ^ (low f + e) * 2 ^ k in
        let n : low f + e + k ≡ j + (low f + suc c) = omega arith in
        let i : u ≡ 2 ^ j * W =
        sym (pow-add 2 (low f + e) k)
        ∙ ap (λ (z : ℕ). 2 ^ z) n
        ∙ pow-add 2 j (low f + suc c)
        ∙ ap (λ (z : ℕ). 2 ^ j * z) (pow-add 2 (low f) (suc c)) in
        let a : Q * u ≡ Q * 2 ^ j * W = ap (λ (z : ℕ). Q * z) i ∙ sym (mul_assoc Q (2 ^ j) W) in
        let b : v * l * (2 ^ c + 2 ^ c) ≡ v * W = ap (λ (z : ℕ). v * l * z) (sym d) ∙ mul_assoc v l (2 ^ suc c) in
        let P : 0 < W = mul-pos (pow_pos (low f)) (pow_pos (suc c)) in
        let x : Q * 2 ^ j * W < (v + 2 ^ j) * W = mul-lt-mul_of_pos_right lo P in
        let y : v * W < (Q * 2 ^ j + 2 ^ j) * W = mul-lt-mul_of_pos_right hi P in
        let x' : (v + 2 ^ j) * W ≡ v * W + 2 ^ j * W = add-mul v (2 ^ j) W in
        let y' : (Q * 2 ^ j + 2 ^ j) * W ≡ Q * 2 ^ j * W + 2 ^ j * W = add-mul (Q * 2 ^ j) (2 ^ j) W in
        sticky f s v (2 ^ (low f + e)) Q k (2 ^ c) (pow_pos (low f + e)) (pow_mono C)
        (λ K. subst (λ (z : ℕ). hid f * z ≤ Q) d (L K)) (subst (λ (z : ℕ). Q < 2 ^ prec f * z) d M)
        (λ (m : Q % (2 ^ c + 2 ^ c) ≡ 2 ^ c). no-mid (ap (λ (z : ℕ). Q % z) d ∙ m)) (omega arith) (omega arith)
        ∙ ap (λ (z : ℕ). units f s (closest Q z) k) (sym d)

    second : round f s (Q * 2 ^ j) (2 ^ (low f + e)) ≡ units f s (closest Q (2 ^ suc c)) k
    second =
        let n : suc c + j ≡ e + k = omega arith in
        let i : (q : ℕ) → q * 2 ^ suc c * 2 ^ j ≡ q * 2 ^ (e + k) =
        λ q. mul_assoc q (2 ^ suc c) (2 ^ j)
        ∙ ap (λ (z : ℕ). q * z) (sym (pow-add 2 (suc c) j) ∙ ap (λ (z : ℕ). 2 ^ z) n) in
        round-finer f s (Q * 2 ^ j) e k (λ K. le_trans (le_of_eq (sym (i (hid f)))) (mul-le-mul_right (2 ^ j) (L K)))
        (lt_of_lt_of_le (mul-lt-mul_of_pos_right M (pow_pos j)) (le_of_eq (i (2 ^ prec f))))
        ∙ ap (λ (z : ℕ). units f s z k)
        (closest_same (Q * 2 ^ j) (2 ^ (e + k)) Q (2 ^ suc c) (pow_pos (e + k)) (pow_pos (suc c))
        (mul_right_comm Q (2 ^ j) (2 ^ suc c) ∙ i Q))
