-- The parts of a float that are taken by its bit pattern, and what it means that an answer is sure. Definitions only.
use Rattle.std.specs.Prelude.{◌≡◌, ℕ, ◌*◌, ◌/◌, ◌%◌, ◌^◌, T, Float}
use Rattle.std.specs.Float.{binary64}
use Rattle.std.specs.Float.Ieee.{of_bits, to_bits}
use Rattle.std.specs.Float.Ieee.Scale.{finite}
use Rattle.rounding.specs.Operations.{fused}

-- How many digits the upper part of a float leaves out.
abbrev pub lower : ℕ
lower = 27

-- The upper part of x: its lowest 27 digits are zero.
abbrev pub high : Float → Float
high x = of_bits binary64 (to_bits binary64 x / 2 ^ lower * 2 ^ lower)

-- The float x without its sign.
abbrev pub sized : Float → Float
sized x = of_bits binary64 (to_bits binary64 x % 2 ^ 63)

-- The largest factor, 1.
abbrev pub top : Float
top = of_bits binary64 0x3ff0_0000_0000_0000

-- If r is finite, then so is a, and r is a * b + c rounded once.
pub record Sure (a b c r : Float) : Type 0 where
  pub factor : T (finite r) → T (finite a)
  pub is : T (finite r) → r ≡ fused binary64 a b c
