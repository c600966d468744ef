-- What the private functions of `square_root` find. Definitions only.
use Rattle.std.specs.Prelude.{◌≡◌, ℕ, ◌+◌, ◌-◌, ◌*◌, ◌/◌, ◌%◌, ◌^◌, ◌<◌, ◌≤◌, ◌⊎◌}

-- w is exactly the root of a; or w is odd, and the root is less than 1 away from it.
abbrev pub NearRoot : ℕ → ℕ → Type 0
NearRoot a w = (w * w ≡ a) ⊎ ((w % 2 ≡ 1) × ((w - 1) * (w - 1) < a) × (a < (w + 1) * (w + 1)))

-- The root of z * 2 ^ 46, to 55 digits.
pub record RootDigits (z w : ℕ) : Type 0 where
  pub least : 2 ^ 54 ≤ w
  pub below : w < 2 ^ 55
  pub near : NearRoot (z * 2 ^ 46) w

-- y is the whole number nearest to the root of c * 2 ^ 52: the root lies at most half a unit below y and less than half
-- a unit above it.
pub record Nearest (c y : ℕ) : Type 0 where
  pub least : 2 ^ 52 ≤ y
  pub top : y ≤ 2 ^ 53
  pub above : (2 * y - 1) * (2 * y - 1) ≤ c * 2 ^ 54
  pub under : c * 2 ^ 54 < (2 * y + 1) * (2 * y + 1)

-- The digits of the value with the pattern n, or twice that, so that an even power of two is left, whose root is exact.
abbrev pub evened : ℕ → ℕ
evened n = (n % 2 ^ 52 + 2 ^ 52) * 2 ^ ((n / 2 ^ 52 + 1) % 2)

-- y is the digits of the root for the pattern n, whose exponent field is above 0.
pub record Quick (n y : ℕ) : Type 0 where
  pub field : 2 ^ 52 ≤ n
  pub digits : Nearest (evened n) y
