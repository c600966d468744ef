-- The sticky law, for an algorithm on whole numbers, at either width. W counts 1 / (h + h) of the unit 2 ^ k that is
-- rounded to. Either W is the fraction exactly, or it is odd and less than one away from it. Then the fraction rounds
-- as W does. Assumes nothing.
use mathlib.Core.Path.{◌≡◌, sym, ap, ◌∙◌}
use mathlib.Core.Logic.{◌⊎◌, inl, inr}
use mathlib.Core.Bool.{Bool}
use Prim.Native.Nat.{ℕ, ◌+◌, ◌*◌, ◌%◌, ◌^◌, ◌≤◌, ◌<◌}
use native.Mathlib.Nat.{le_trans, le_of_eq, lt_of_lt_of_le, lt_of_le_of_lt, mul_right_comm, mul-pos, mul-le-mul_right}
use native.Mathlib.Nat.{mul-lt-mul_of_pos_right, lt_of_mul-lt-mul_right, le_of_mul-le-mul_right}
use native.Mathlib.Omega.{arith}
use lib.Pow.{pow_pos}
use lib.Ieee.{Format, units, round, prec, low, hid}
use lib.Ieee.Nearest.{closest, closest_same}
use Rattle.rounding.proofs.DroppedDigits.{round-at}
use Rattle.rounding.proofs.Sticky.{odd-mid, sticky}

pub jammed : (f : Format) (s : Bool) (num den W k h : ℕ) → 0 < den → 2 ≤ h → h % 2 ≡ 0 → (0 < k → hid f * (h + h) ≤ W)
    → W < 2 ^ prec f * (h + h)
    → (num * 2 ^ low f * (h + h) ≡ W * (den * 2 ^ k))
    ⊎ ((W % 2 ≡ 1) × (W * (den * 2 ^ k) < num * 2 ^ low f * (h + h) + den * 2 ^ k)
    × (num * 2 ^ low f * (h + h) < W * (den * 2 ^ k) + den * 2 ^ k))
    → round f s num den ≡ units f s (closest W (h + h)) k
jammed f s num den W k h D two-h even L M (inr z) =
    sticky f s num den W k h D two-h L M (odd-mid W h z.0 even) z.1 z.2
jammed f s num den W k h D two-h even L M (inl e) =
    let n = num * 2 ^ low f in
    let d = h + h in
    let u = den * 2 ^ k in
    let P : 0 < d = omega arith in
    let U : 0 < u = mul-pos D (pow_pos k) in
    round-at f s num den k D
    (λ K. le_of_mul-le-mul_right
    (le_trans (le_of_eq (mul_right_comm (hid f) u d)) (le_trans (mul-le-mul_right u (L K)) (le_of_eq (sym e)))) P)
    (lt_of_mul-lt-mul_right d (lt_of_le_of_lt (le_of_eq e)
    (lt_of_lt_of_le (mul-lt-mul_of_pos_right M U) (le_of_eq (mul_right_comm (2 ^ prec f) d u)))))
    ∙ ap (λ (z : ℕ). units f s z k) (closest_same n u W d U P e)
