-- Signed sums near a place: a small unsigned number read as a signed one, and sums and differences that stay in the
-- range of an `i64`. Assumes nothing.
use Rattle.std.proofs.Common.{◌≡◌, ℕ, zero, suc, ◌+◌, ◌^◌, ◌<◌, ◌≤◌, ℤ, pos, negsuc, ◌+ℤ◌, ◌-ℤ◌, ◌∙◌, arith, w64, SFits}
use Rattle.std.proofs.Common.{to_z, of_z}
use lib.Signed.{mag}
use mir.ValLaws.{to_z-of_z}
use Rattle.integer_part.proofs.IntegerSizes.{mag_sum, sum_fits}

pub small : (k : ℕ) → k < 2 ^ 63 → to_z w64 k ≡ pos k
small k h = to_z-of_z w64 (pos k) (record { sfits = h })

-- An `i64` plus a small number, as the code adds them.
module _ {z : ℤ} (fits : SFits w64 z) (k : ℕ) (h : mag z + k + 1 < 2 ^ 63) where
  sum_is : to_z w64 (of_z w64 z) +ℤ to_z w64 k ≡ z +ℤ pos k
  sum_is = rw (to_z-of_z w64 z fits, small k (omega arith))

  pub plus-fits : SFits w64 (to_z w64 (of_z w64 z) +ℤ to_z w64 k)
  plus-fits = rw sum_is (sum_fits z (pos k) h)

  pub plus-is : to_z w64 (of_z w64 (to_z w64 (of_z w64 z) +ℤ to_z w64 k)) ≡ z +ℤ pos k
  plus-is = to_z-of_z w64 (to_z w64 (of_z w64 z) +ℤ to_z w64 k) plus-fits ∙ sum_is

pub minus-mag : (z : ℤ) (k : ℕ) → mag (z -ℤ pos k) ≤ mag z + k + 1
minus-mag z zero = omega (arith, mag_sum z (pos 0))
minus-mag z (suc k) = omega (arith, mag_sum z (negsuc k))

pub minus-fits : (z : ℤ) (k : ℕ) → mag z + k + 1 < 2 ^ 63 → SFits w64 (z -ℤ pos k)
minus-fits z k h = record { sfits = omega (arith, minus-mag z k) }
