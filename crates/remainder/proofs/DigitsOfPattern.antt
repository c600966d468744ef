-- The digits of a number above zero and their place, from its pattern. Assumes nothing.
use Rattle.std.proofs.Common.{◌≡◌, ℕ, ◌+◌, ◌-◌, ◌*◌, ◌/◌, ◌%◌, ◌^◌, ◌<◌, ◌≤◌, Bool, true, false, cond, T, leb, sym, ap}
use Rattle.std.proofs.Common.{◌∙◌, subst, le_trans, le_of_eq, lt_of_lt_of_le, lt_irrefl, mul_assoc, mul-le-mul}
use Rattle.std.proofs.Common.{mul-lt-mul_of_pos_right, zero-add, arith, pow_pos, pow_mono, pow-add, shl_lt}
use mathlib.Core.Logic.{dite}
use native.Mathlib.Decide.{dec_lt}
use lib.Ieee.{Float, nan, inf, fin, binary64, units, fits, of_bits, to_bits}
use lib.Ieee.Bits.{of_bits-to_bits, to_bits-lt}
use lib.Ieee.Exact.{HasValue, units_val}
use lib.Ieee.Positive.{positive, positive-finite}
use Rattle.rounding.proofs.Patterns.{sign-rest, finite-rest, unpacked}

-- The digits of a pattern without a sign, and how many places above the smallest value they stand.
abbrev pub place_of : ℕ → ℕ
place_of u = u / 2 ^ 52 - 1

abbrev pub digits_of : ℕ → ℕ
digits_of u = u - place_of u * 2 ^ 52

pub record Taken (x : Float) (u : ℕ) : Type 0 where
  pub below : u < 0x7ff0_0000_0000_0000
  pub value : HasValue x false (digits_of u * 2 ^ place_of u) (2 ^ 1074)

clear : (x : Float) (s : Bool) (a c : ℕ) → T (positive x) → HasValue x s a c → s ≡ false
clear nan s a c p h = absurd p
clear (inf t) s a c p h = absurd p
clear (fin true m e) s a c p h = absurd p
clear (fin false m e) s a c p h = sym h.0

pub taken : (x : Float) → T (fits binary64 x) → T (positive x) → Taken x (to_bits binary64 x)
taken x held p =
    let n = to_bits binary64 x in
    let r = n % 2 ^ 63 in
    let s = leb (2 ^ 63) n in
    let back : of_bits binary64 n ≡ x = of_bits-to_bits binary64 x held in
    let F : r < 0x7ff0_0000_0000_0000 = finite-rest binary64 n (rw back (positive-finite x p)) in
    let parts : n ≡ cond s (2 ^ 63) 0 + r = sign-rest binary64 n (to_bits-lt binary64 x held) in
    let reads : x ≡ units binary64 s (digits_of r) (place_of r) =
    sym back ∙ ap (of_bits binary64) parts ∙ unpacked binary64 s r F in
    let K : place_of r ≤ 2045 = omega arith in
    let D : digits_of r < 2 ^ 53 = omega arith in
    let value : HasValue x s (digits_of r * 2 ^ place_of r) (2 ^ 1074) =
    subst (λ (v : Float). HasValue v s (digits_of r * 2 ^ place_of r) (2 ^ 1074)) (sym reads)
    (units_val binary64 s (digits_of r) (place_of r)
    (lt_of_lt_of_le (shl_lt 53 (place_of r) D) (pow_mono {j = 2098} (omega arith)))) in
    let plus : s ≡ false = clear x s _ _ p value in
    let same : n ≡ r = parts ∙ ap (λ (b : Bool). cond b (2 ^ 63) 0 + r) plus ∙ zero-add r in
    record {
      below = rw same F;
      value = rw (same, ← plus) value;
    }

-- The digits of a number that is not below another do not stand at a lower place.
pub place-order : (m i n j : ℕ) → m < 2 ^ 53 → (0 < j → 2 ^ 52 ≤ n) → n * 2 ^ j ≤ m * 2 ^ i → j ≤ i
place-order m i n j M N h =
    dite (dec_lt i j)
    (λ l. absurd (lt_irrefl _ (lt_of_lt_of_le (mul-lt-mul_of_pos_right M (pow_pos i)) (le_trans (larger l) h))))
    (λ l. omega arith)
  where
    larger : i < j → 2 ^ 53 * 2 ^ i ≤ n * 2 ^ j
    larger l =
        le_trans (le_of_eq (mul_assoc (2 ^ 52) 2 (2 ^ i) ∙ ap (λ (z : ℕ). 2 ^ 52 * z) (sym (pow-add 2 1 i))))
        (mul-le-mul (N (omega arith)) (pow_mono {j = j} (omega arith)))
