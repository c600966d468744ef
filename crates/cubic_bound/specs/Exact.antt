-- D3. The exact value (01, 'Reading a ring'). With M = 65536, the fraction m / M and samples s / 2^23, it is four
-- weights over 6M^3. All numbers are whole. Definitions only.
use Rattle.std.specs.Prelude.{◌*◌, ◌^◌, ℤ, pos, neg_ℤ, ◌+ℤ◌, ◌-ℤ◌, ◌*ℤ◌}
use Rattle.rounding_error.specs.Fraction.{Frac, whole}

abbrev pub M : ℤ
M = pos 65536

-- The weight -m(m-M)(m-2M).
abbrev pub weight0 : ℤ → ℤ
weight0 m = neg_ℤ m *ℤ (m -ℤ M) *ℤ (m -ℤ pos 2 *ℤ M)

-- The weight 3(m+M)(m-M)(m-2M).
abbrev pub weight1 : ℤ → ℤ
weight1 m = pos 3 *ℤ ((m +ℤ M) *ℤ (m -ℤ M) *ℤ (m -ℤ pos 2 *ℤ M))

-- The weight -3(m+M)m(m-2M).
abbrev pub weight2 : ℤ → ℤ
weight2 m = neg_ℤ (pos 3) *ℤ ((m +ℤ M) *ℤ m *ℤ (m -ℤ pos 2 *ℤ M))

-- The weight (m+M)m(m-M).
abbrev pub weight3 : ℤ → ℤ
weight3 m = (m +ℤ M) *ℤ m *ℤ (m -ℤ M)

-- The cubic through the samples s0 to s3 at the nodes -1, 0, 1 and 2, taken at m / M.
abbrev pub exact_cubic : ℤ → ℤ → ℤ → ℤ → ℤ → Frac
exact_cubic m s0 s1 s2 s3 =
    whole (s0 *ℤ weight0 m +ℤ s1 *ℤ weight1 m +ℤ s2 *ℤ weight2 m +ℤ s3 *ℤ weight3 m) (6 * 65536 ^ 3 * 2 ^ 23)
