-- What the private function `magnitude` promises to `narrow`. Definitions only.
use Rattle.std.specs.Prelude.{◌≡◌, Bool, cond, ℕ, ◌+◌, ◌≤◌}
use Rattle.std.specs.Float.{binary32, binary64}
use Rattle.std.specs.Float.Ieee.{of_bits}
use Rattle.rounding.specs.Operations.{narrowed}

-- With either sign, r is the pattern of the f32 that is nearest to the f64 with the pattern b.
pub record Rounds (b r : ℕ) : Type 0 where
  pub small : r ≤ 0x7f80_0000
  pub reads : (s : Bool)
      → of_bits binary32 (cond s 0x8000_0000 0 + r) ≡ narrowed (of_bits binary64 (cond s 0x8000_0000_0000_0000 0 + b))
