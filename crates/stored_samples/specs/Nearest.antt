-- W2d in exact fractions: the meaning of 'nearest' in the law `nearest-whole`. Definitions only.
use Rattle.std.specs.Prelude.{◌≡◌, Bool, not, ℕ, ◌*◌, ◌%◌, ◌≤◌, ℤ, nat_abs}
use Rattle.std.specs.Int.Signed.{non_neg}
use Rattle.rounding.specs.Nearest.{apart}

-- The distance between ±num / den and a whole number, times den.
abbrev pub off : Bool → ℕ → ℕ → ℤ → ℕ
off s num den z = apart s num (not (non_neg z)) (nat_abs z * den)

-- z is the whole number nearest to ±num / den: none lies nearer, and if another lies as near, z is even.
pub record NearestWhole (s : Bool) (num den : ℕ) (z : ℤ) : Type 0 where
  pub nearest : (y : ℤ) → off s num den z ≤ off s num den y
  pub even : (y : ℤ) → (y ≡ z → ⊥) → off s num den z ≡ off s num den y → nat_abs z % 2 ≡ 0
