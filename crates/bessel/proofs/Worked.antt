-- T2. The series computed from the definition that the contracts cite. At 1 it ends by itself after 9 terms, however
-- many are allowed; at 12 it needs 26, so that 24 and 64 terms differ. Assumes nothing.
use mathlib.Core.Bool.{true, false}
use mathlib.Core.Path.{◌≡◌, refl}
use Prim.Native.Nat.{ℕ, zero, suc, ◌*◌, ◌^◌, ◌<◌}
use lib.Dec.{lit<}
use lib.IntN.{pos}
use lib.Ieee.{fin, binary64, round, add, mul, div, lt, of_int, of_bits, to_bits}
use Rattle.bessel.specs.Series.{series_of, ends_within}

abbrev bits : ℕ → ℕ → ℕ
bits terms x = to_bits binary64 (series_of terms (of_bits binary64 x))

pub ends-by-itself : (bits 9 0x3ff0_0000_0000_0000 ≡ 0x3ff4_41ce_4b38_6c2c)
    × (bits 24 0x3ff0_0000_0000_0000 ≡ 0x3ff4_41ce_4b38_6c2c)
unfolding series_of round add mul div lt of_int of_bits to_bits
ends-by-itself = (refl, refl)

pub at-twelve : (bits 24 0x4028_0000_0000_0000 ≡ 0x40d2_813b_38ec_4140)
    × (bits 64 0x4028_0000_0000_0000 ≡ 0x40d2_813b_38ec_4141)
unfolding series_of round add mul div lt of_int of_bits to_bits
at-twelve = (refl, refl)

-- W5a. At 20, where y is 100, the 24th term of the series is 100^24 / (24!)^2, which is above 2.
unfoldable pub factorial : ℕ → ℕ
factorial zero = 1
factorial (suc n) = suc n * factorial n

pub twenty-fourth-term : 2 * (factorial 24 * factorial 24) < 100 ^ 24
unfolding factorial
twenty-fourth-term = lit< tt

-- W5a. At 20 the 24 terms of the ported sum are not enough: the tolerance ends it with the 34th, and the two sums
-- differ.
pub at-twenty : (ends_within 24 (fin false 5 (pos 2)) ≡ false)
    × (ends_within 33 (fin false 5 (pos 2)) ≡ false)
    × (ends_within 34 (fin false 5 (pos 2)) ≡ true)
    × (bits 24 0x4034_0000_0000_0000 ≡ 0x4184_c52c_5095_0ff2)
    × (bits 64 0x4034_0000_0000_0000 ≡ 0x4184_c52c_5479_f733)
unfolding ends_within series_of round add mul div lt of_int of_bits to_bits
at-twenty = (refl, refl, refl, refl, refl)
