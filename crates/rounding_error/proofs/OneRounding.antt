-- The error of one rounding, for any format. |round - a / c| is at most 2 ^ k / 2 ^ (prec + 1 + h) if a / c is at most
-- 2 ^ k / 2 ^ h, and at most (B / K) / 2 ^ prec if a / c is at most B / K and B / K is not below the normal range. The
-- result is a whole number of units, and `UnitErrors` says how near it is. Assumes nothing.
use mathlib.Core.Path.{◌≡◌, sym, ap, ◌∙◌, subst}
use mathlib.Core.Logic.{inl, inr}
use mathlib.Core.Bool.{Bool, true, false}
use Prim.Native.Nat.{ℕ, suc, ◌+◌, ◌-◌, ◌*◌, ◌^◌, ◌≤◌, ◌<◌}
use native.Mathlib.Nat.{pow-suc, one-mul, add-sub_of_le, add_comm, le_trans, le_of_eq, lt_of_lt_of_le, mul-le-mul_right}
use native.Mathlib.Nat.{mul-le-mul_left, mul-pos, le_of_mul-le-mul_right, mul_assoc, mul_comm}
use native.Mathlib.Omega.{arith}
use lib.Dec.{lit≤, lit<}
use lib.Pow.{pow-add, pow_pos, pow_mono}
use lib.Ieee.{Float, Format, binary32, binary64, prec, emax, low, round}
use lib.Ieee.Fits.{round_is}
use lib.Ieee.Exact.{HasValue, units_val}
use lib.Ieee.Order.{drop, kept}
use lib.Ieee.Scale.{grid, overflow}
use Rattle.rounding.proofs.DroppedDigits.{prec-pos}
use Rattle.rounding_error.specs.Fraction.{Within}
use Rattle.rounding_error.specs.Value.{signed, Is, Rounds}
use Rattle.rounding_error.proofs.Same.{ring, same-sym}
use Rattle.rounding_error.proofs.Within.{from, rescale}
use Rattle.rounding_error.proofs.Value.{value-is}
use Rattle.rounding_error.proofs.UnitErrors.{near, Part, near-part}

-- ---- how many units the result is, if it does not overflow
grid-is : (f : Format) (s : Bool) (a c : ℕ) → grid f a c < overflow f
    → Is (round f s a c) (signed s (grid f a c) (2 ^ low f))
grid-is f s a c h =
    value-is (round f s a c) s (grid f a c) (2 ^ low f) (pow_pos (low f))
    (subst (λ (z : Float). HasValue z s (grid f a c) (2 ^ low f)) (sym (round_is f s a c))
    (units_val f s (kept (prec f) (a * 2 ^ low f) c) (drop (prec f) (a * 2 ^ low f) c) h))

by_units : {g e : ℕ} (f : Format) (s : Bool) (a c : ℕ) → grid f a c < overflow f
    → Within g e (signed s (grid f a c) (2 ^ low f)) (signed s a c) → Rounds g e (round f s a c) (signed s a c)
by_units f s a c h w = let i = grid-is f s a c h in record { real = i.real; near = from (same-sym i.same) w }

under : (p l m j c n w : ℕ) → 0 < c → n ≤ c * 2 ^ (p + j) → w * c * 2 ≤ n * 2 + c * 2 ^ j → p + j ≤ l + m
    → w < 2 ^ (l + suc m)
under p l m j c n w C h k o =
    let b : 2 ^ (p + j) * 2 ≤ 2 ^ (l + suc m) = le_trans (le_of_eq (sym (pow-suc 2 (p + j)))) (pow_mono (one_more o)) in
    lt_of_lt_of_le
    (last (2 ^ j) (2 ^ (p + j)) (pow_mono (most p j))
    (le_of_mul-le-mul_right {k = c} (flat (2 ^ j) (2 ^ (p + j)) h k) C) (pow_pos (p + j))) b
  where
    most : (p j : ℕ) → j ≤ p + j
    most p j = omega arith

    one_more : p + j ≤ l + m → suc (p + j) ≤ l + suc m
    one_more o = omega arith

    last : (t u : ℕ) → t ≤ u → w * 2 ≤ u * 2 + t → 0 < u → w < u * 2
    last t u a q z = omega arith

    flat : (t u : ℕ) → n ≤ c * u → w * c * 2 ≤ n * 2 + c * t → w * 2 * c ≤ (u * 2 + t) * c
    flat t u h k = omega arith

-- ---- absolute
signed-near : (s : Bool) (w l a c g e t : ℕ) → 0 < l → 0 < c → w * c * 2 ≤ a * l * 2 + c * t
    → a * l * 2 ≤ w * c * 2 + c * t → g * t ≡ e * l → Within (g * 2) e (signed s w l) (signed s a c)
signed-near s w l a c g e t L C h k q = both s (scaled (w * c) (a * l) h) (scaled (a * l) (w * c) k)
  where
    gt : g * (c * t) ≡ e * (l * c)
    gt = simp ring (simp ring at (ap (λ (x : ℕ). x * c) q))

    scaled : (x y : ℕ) → x * 2 ≤ y * 2 + c * t → g * 2 * x ≤ g * 2 * y + e * (l * c)
    scaled x y h = omega (arith, mul-le-mul_left g h, gt)

    both : (s : Bool) → g * 2 * (w * c) ≤ g * 2 * (a * l) + e * (l * c)
        → g * 2 * (a * l) ≤ g * 2 * (w * c) + e * (l * c) → Within (g * 2) e (signed s w l) (signed s a c)
    both false h k = omega arith
    both true h k = omega arith

pub round-absolute : (f : Format) (s : Bool) (a c h k : ℕ) → 0 < c → prec f + h ≤ low f + k → k ≤ emax f + h
    → a * 2 ^ h ≤ c * 2 ^ k → Rounds (2 ^ (prec f + h) * 2) (2 ^ k) (round f s a c) (signed s a c)
round-absolute f s a c h k C J O M =
    let p = prec f in
    let l = low f in
    let j = l + k - (p + h) in
    let e : p + h + j ≡ l + k = add-sub_of_le J in
    let N : a * 2 ^ l ≤ c * 2 ^ (p + j) = le_of_mul-le-mul_right {k = 2 ^ h} (shift p l j e) (pow_pos h) in
    let w = near p (a * 2 ^ l) c j (prec-pos f) C N in
    by_units f s a c (under p l (emax f) j c (a * 2 ^ l) (grid f a c) C N w.above (room p l j (emax f) e O))
    (signed-near s (grid f a c) (2 ^ l) a c (2 ^ (p + h)) (2 ^ k) (2 ^ j) (pow_pos l) C w.above w.below
    (sym (pow-add 2 (p + h) j) ∙ ap (λ (x : ℕ). 2 ^ x) (e ∙ add_comm l k) ∙ pow-add 2 k l))
  where
    room : (p l j m : ℕ) → p + h + j ≡ l + k → k ≤ m + h → p + j ≤ l + m
    room p l j m e o = omega arith

    shift : (p l j : ℕ) → p + h + j ≡ l + k → a * 2 ^ l * 2 ^ h ≤ c * 2 ^ (p + j) * 2 ^ h
    shift p l j e =
        let q : 2 ^ k * 2 ^ l ≡ 2 ^ (p + j) * 2 ^ h =
        sym (pow-add 2 k l) ∙ ap (λ (x : ℕ). 2 ^ x) (regroup e) ∙ pow-add 2 (p + j) h in
        omega (arith, mul-le-mul_right (2 ^ l) M, ap (λ (x : ℕ). c * x) q)
      where
        regroup : p + h + j ≡ l + k → k + l ≡ p + j + h
        regroup e = omega arith

-- ---- relative
signed_part : (s : Bool) (w l a c v : ℕ) → 0 < l → 0 < c → Part v w (a * l) c
    → Within (c * v) a (signed s w l) (signed s a c)
signed_part s w l a c v L C r = go s (mul-le-mul_right c r.above) (mul-le-mul_right c r.below)
  where
    go : (s : Bool) → v * (w * c) * c ≤ (v * (a * l) + a * l) * c → v * (a * l) * c ≤ (v * (w * c) + a * l) * c
        → Within (c * v) a (signed s w l) (signed s a c)
    go false h k = omega arith
    go true h k = omega arith

roomy : (f : Format) → prec f ≤ low f + emax f
roomy binary32 = lit≤ tt
roomy binary64 = lit≤ tt

grid-under : (f : Format) (a c : ℕ) → 0 < c → a ≤ c * 2 ^ emax f → grid f a c < overflow f
grid-under f a c C h =
    let p = prec f in
    let l = low f in
    let j = l + emax f - p in
    let e : p + j ≡ l + emax f = add-sub_of_le (roomy f) in
    let N : a * 2 ^ l ≤ c * 2 ^ (p + j) =
    le_trans (mul-le-mul_right (2 ^ l) h)
    (le_of_eq (mul_assoc c (2 ^ emax f) (2 ^ l)
    ∙ ap (λ (x : ℕ). c * x) (sym (pow-add 2 (emax f) l) ∙ ap (λ (x : ℕ). 2 ^ x) (add_comm (emax f) l ∙ sym e)))) in
    under p l (emax f) j c (a * 2 ^ l) (grid f a c) C N (near p (a * 2 ^ l) c j (prec-pos f) C N).above (le_of_eq e)

-- The same if only the result is known to be finite.
pub round-part : (f : Format) (s : Bool) (a c K B : ℕ) → 0 < c → 0 < K → a * K ≤ c * B
    → K * 2 ^ prec f ≤ B * (2 ^ low f * 2) → grid f a c < overflow f
    → Rounds (K * 2 ^ prec f) B (round f s a c) (signed s a c)
round-part f s a c K B C P h m o =
    let l = low f in
    let v = 2 ^ prec f in
    by_units f s a c o
    (elim (near-part (prec f) (a * 2 ^ l) c (prec-pos f) C) [
      | inl r ↦ rescale (mul-pos C (pow_pos (prec f))) (grow v)
          (signed_part s (grid f a c) (2 ^ l) a c v (pow_pos l) C r)
      | inr r ↦ rescale (mul-pos (pow_pos l) (lit< tt)) (le_trans (le_of_eq (one-mul (K * v))) m)
          (signed-near s (grid f a c) (2 ^ l) a c (2 ^ l) 1 (2 ^ 0) (pow_pos l) C r.above r.below
          (mul_comm (2 ^ l) 1))
    ])
  where
    grow : (v : ℕ) → a * (K * v) ≤ B * (c * v)
    grow v = simp ring (simp ring at (mul-le-mul_right v h))

pub round-relative : (f : Format) (s : Bool) (a c K B : ℕ) → 0 < c → 0 < K → a * K ≤ c * B
    → K * 2 ^ prec f ≤ B * (2 ^ low f * 2) → B ≤ K * 2 ^ emax f
    → Rounds (K * 2 ^ prec f) B (round f s a c) (signed s a c)
round-relative f s a c K B C P h m o =
    round-part f s a c K B C P h m (grid-under f a c C (le_of_mul-le-mul_right {k = K}
    (le_trans h (le_trans (mul-le-mul_left c o) (le_of_eq (simp (mul_assoc, mul_comm))))) P))
