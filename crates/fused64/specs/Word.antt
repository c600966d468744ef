-- The quick way in one word, for the contracts of private functions. Definitions only.
use Rattle.std.specs.Prelude.{◌≡◌, ℕ, ◌+◌, ◌*◌, ◌/◌, ◌%◌, ◌^◌, ◌<◌, ◌≤◌, ◌==◌, from_bits}
use Rattle.std.specs.Float.{binary64}
use Rattle.std.specs.Float.Ieee.{round, sum}
use Rattle.float_digits.specs.Jam.{Jam}
use Rattle.fused64.specs.Wide.{val}

-- Three exponent fields, each less 768, that are all below 512.
pub record Heads (f g h : ℕ) : Type 0 where
  pub first : f % 2 ^ 11 < 2 ^ 9
  pub second : g % 2 ^ 11 < 2 ^ 9
  pub third : h % 2 ^ 11 < 2 ^ 9

-- `rest` is 0 exactly if the word lo is.
pub record Tells (rest lo : ℕ) : Type 0 where
  pub word : lo < 2 ^ 64
  pub none : rest ≡ 0 → lo ≡ 0
  pub nothing : lo ≡ 0 → rest ≡ 0

-- r stands for hi * 2 ^ 64 + lo at the place 64 + d.
pub record Cutoff (hi lo d r : ℕ) : Type 0 where
  pub below : r < 2 ^ 62
  pub jams : Jam (val hi lo) (2 ^ (64 + d)) r

-- n leaves room for one more digit, and g holds the sign and a place for which no exponent field overflows or
-- underflows.
pub record Headed (n g : ℕ) : Type 0 where
  pub below : n < 2 ^ 63
  pub word : g < 2 ^ 12
  pub low : 9 ≤ g % 2 ^ 11
  pub high : g % 2 ^ 11 < 1600

-- r is not a NaN's pattern, and it is the pattern of every v that n stands for, rounded once.
pub record Placed (n g r : ℕ) : Type 0 where
  pub some : 0 < n
  pub finite : r % 2 ^ 63 ≤ 0x7ff0_0000_0000_0000
  pub rounds : (v : ℕ) → Jam v (2 ^ (g % 2 ^ 11 + 1189)) n
      → from_bits binary64 r ≡ round binary64 (g / 2 ^ 11 == 1) v (2 ^ 2274)

-- Two numbers at one place, the second of them even; a sign is 0 or 2 ^ 11.
pub record Beside (s p t z e : ℕ) : Type 0 where
  pub first : (s % 2 ^ 11 ≡ 0) × (s < 2 ^ 12)
  pub second : (t % 2 ^ 11 ≡ 0) × (t < 2 ^ 12)
  pub left : p < 2 ^ 62
  pub right : z < 2 ^ 62
  pub even : z % 2 ≡ 0
  pub place : (9 ≤ e) × (e < 1600)

-- r is not a NaN's pattern. It is the pattern of the sum of z and of every q that p stands for, rounded once.
pub record Joined (s p t z e r : ℕ) : Type 0 where
  pub finite : r % 2 ^ 63 ≤ 0x7ff0_0000_0000_0000
  pub sums : (q : ℕ) → Jam q (2 ^ (e + 1189)) p
      → from_bits binary64 r ≡ sum binary64 (s / 2 ^ 11 == 1) q (t / 2 ^ 11 == 1) (z * 2 ^ (e + 1189)) (2 ^ 2274)

-- The digits and the exponent field of a normal value's pattern.
abbrev pub digits53 : ℕ → ℕ
digits53 n = n % 2 ^ 52 + 2 ^ 52

abbrev pub field_of : ℕ → ℕ
field_of n = n % 2 ^ 63 / 2 ^ 52

-- n is the pattern of a normal value, which is neither subnormal nor infinite nor a NaN.
pub record Normal (n : ℕ) : Type 0 where
  pub least : 2 ^ 52 ≤ n % 2 ^ 63
  pub below : n % 2 ^ 63 < 0x7ff0_0000_0000_0000

-- r is not a NaN's pattern. It is the pattern of the sum of the product and the addend, rounded once.
pub record Quick (a b c r : ℕ) : Type 0 where
  pub first : Normal a
  pub second : Normal b
  pub third : Normal c
  pub finite : r % 2 ^ 63 ≤ 0x7ff0_0000_0000_0000
  pub sums : from_bits binary64 r
      ≡ sum binary64 ((a / 2 ^ 63 + b / 2 ^ 63) % 2 == 1)
      (digits53 a * 2 ^ 10 * (digits53 b * 2 ^ 10) * 2 ^ (field_of a + 52 + (field_of b + 52))) (c / 2 ^ 63 == 1)
      (digits53 c * 2 ^ 8 * 2 ^ (field_of c + 1191)) (2 ^ 2274)
