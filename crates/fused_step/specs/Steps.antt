-- What the parts of a step promise one another. Definitions only.
use Rattle.std.specs.Prelude.{◌≡◌, ℕ, ◌%◌, ◌^◌, ◌<◌, ◌≤◌, Bool, not, ◌&&◌, ◌||◌, T, ◌==◌, bit_and, is_nan, nat_lt}
use Rattle.std.specs.Prelude.{Float}
use Rattle.std.specs.Float.Ieee.{lt, le}

-- Whether two floats can be ordered. A NaN cannot.
abbrev pub in_order : Float → Float → Bool
in_order x c = lt x c || le c x

pub record Numbers (x c : Float) : Type 0 where
  pub first : T (not (is_nan x))
  pub second : T (not (is_nan c))

-- Whether n, to which half of an f32's last digit has been added, is the pattern of an f64 that cutting the pattern off
-- rounds to an f32.
abbrev pub plain : ℕ → Bool
plain n =
    not (bit_and n 0x1fff_ffff == 0)
    && (not (nat_lt (bit_and n 0x7fff_ffff_ffff_ffff) 0x3810_0000_1000_0000)
    && nat_lt (bit_and n 0x7fff_ffff_ffff_ffff) 0x47e0_0000_1000_0000)

-- Before 2 ^ 28 was added to it, n was the pattern of an f64 of either sign, from 2 ^ -126 to below 2 ^ 127 in size,
-- that is no midpoint of two f32.
pub record Plain (n : ℕ) : Type 0 where
  pub normal : 0x3810_0000_1000_0000 ≤ n % 2 ^ 63
  pub small : n % 2 ^ 63 < 0x47e0_0000_1000_0000
  pub no-midpoint : n % 2 ^ 29 ≡ 0 → ⊥
