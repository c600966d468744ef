-- What a number that was cut short still says about the exact one. Private contracts and laws use it. Definitions only.
use Rattle.std.specs.Prelude.{◌≡◌, ◌⊎◌, ℕ, ◌+◌, ◌*◌, ◌%◌, ◌<◌}

-- v is exactly w units of u; or w is odd, and v is less than one unit away from w units. Such a w rounds as v does.
abbrev pub Jam : ℕ → ℕ → ℕ → Type 0
Jam v u w = (v ≡ w * u) ⊎ ((w % 2 ≡ 1) × (w * u < v + u) × (v < w * u + u))
