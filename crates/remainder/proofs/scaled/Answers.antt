-- `remainder::scaled` meets its contract: r * 2^-52 is exact, and the other factor's pattern is that of 2^52 times 2^(j
-- - 1074). Assumes nothing.
use Rattle.std.proofs.Common.{◌≡◌, ℕ, ◌+◌, ◌*◌, ◌%◌, ◌^◌, ◌<◌, ◌≤◌, false, pos, sym, refl, lt_of_lt_of_le, le_of_lt}
use Rattle.std.proofs.Common.{mul_assoc, mul-pos, mul-one, mul_left_comm, arith, lit<, lit≤, pow_pos, pow_mono, shl_lt}
use lib.Ieee.{Float, binary64, mul, of_int, odd, of_fields, of_bits}
use lib.Ieee.Exact.{HasValue, round_exact, units_val}
use lib.Ieee.Scale.{round_same}
use Rattle.magnitude.proofs.WholeFloats.{whole-value}
use Rattle.rounding.proofs.Pack.{pack}
use Rattle.rounding.proofs.Patterns.{rest-no-nan}
use Rattle.rounding.proofs.Products.{mul-value}
use Rattle.remainder.proofs.scaled.Goals as goal

pub float_from_bits-result : goal.float_from_bits-result
float_from_bits-result c = rest-no-nan binary64 _ (omega arith)

-- The factor 2^-52.
abbrev fine : Float
fine = of_bits binary64 0x3cb0_0000_0000_0000

shrunk : (r : ℕ) → r < 2 ^ 53 → HasValue (mul binary64 (of_int binary64 (pos r)) fine) false r (2 ^ 52)
unfolding odd of_fields of_bits
shrunk r h =
    rw (
      mul-value binary64 (of_int binary64 (pos r)) fine false false r 1 1 (2 ^ 52) (lit< tt) (pow_pos 52)
          (whole-value binary64 (pos r) (le_of_lt h)) (refl, refl),
      mul-one r,
    )
    (round_exact binary64 false r (2 ^ 52) r 1022 (pow_pos 52) h (lt_of_lt_of_le (shl_lt 53 1022 h) (lit≤ tt))
    (sym (mul_assoc r (2 ^ 1022) (2 ^ 52))))

power : (j : ℕ) → j ≤ 2045 → HasValue (of_bits binary64 ((j + 1) * 2 ^ 52)) false (2 ^ 52 * 2 ^ j) (2 ^ 1074)
power j h =
    let pattern : (j + 1) * 2 ^ 52 ≡ 0 + (j * 2 ^ 52 + 2 ^ 52) = omega arith in
    rw (pattern, pack binary64 false (2 ^ 52) j (lit≤ tt) (λ _. lit≤ tt) (omega arith))
    (units_val binary64 false (2 ^ 52) j (lt_of_lt_of_le (shl_lt 53 j (lit< tt)) (pow_mono {j = 2098} (omega arith))))

crossed : (r p q l : ℕ) → r * (p * q) * l ≡ r * q * (p * l)
crossed r p q l = simp (mul_assoc, mul_left_comm)

pub returns : goal.returns
returns c =
    let r = c.args.r in
    let j = c.args.j in
    let whole : (j + 1) * 2 ^ 52 % 2 ^ 64 ≡ (j + 1) * 2 ^ 52 = omega arith in
    rw (
      c.nearest_u64_to_f64.ensures,
      whole,
      mul-value binary64 _ _ false false r (2 ^ 52 * 2 ^ j) (2 ^ 52) (2 ^ 1074) (pow_pos 52) (pow_pos 1074)
          (shrunk r c.requires.fact_1) (power j c.requires.fact_2),
    )
    (round_same binary64 false (r * (2 ^ 52 * 2 ^ j)) (2 ^ 52 * 2 ^ 1074) (r * 2 ^ j) (2 ^ 1074)
    (mul-pos (pow_pos 52) (pow_pos 1074)) (pow_pos 1074) (crossed r (2 ^ 52) (2 ^ j) (2 ^ 1074)))
