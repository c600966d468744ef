-- What the private functions of `fused32` promise and need. A unit is 2 ^ -1074, the smallest f64. Definitions only.
use Rattle.std.specs.Prelude.{◌≡◌, ℕ, ◌+◌, ◌*◌, ◌%◌, ◌^◌, ◌<◌, ◌≤◌, Bool, true, false, T, ◌≢◌, from_bits, to_bits}
use Rattle.std.specs.Prelude.{Float}
use Rattle.std.specs.Float.{binary64}
use Rattle.std.specs.Float.Ieee.{add, lt}
use Rattle.std.specs.Float.Ieee.Exact.{HasValue}
use Rattle.std.specs.Float.Ieee.Scale.{finite}

-- x is finite, and `digits` * 2 ^ `places` units in size, with no more digits than an f64 has.
pub record Short (x : Float) : Type 0 where
  pub sign : Bool
  pub digits : ℕ
  pub places : ℕ
  pub few : digits < 2 ^ 53
  pub bounded : digits * 2 ^ places < 2 ^ (1074 + 1024)
  pub value : HasValue x sign (digits * 2 ^ places) (2 ^ 1074)

abbrev pub amount : {x : Float} → Short x → ℕ
amount p = p.digits * 2 ^ p.places

-- x is not below zero, and y is no larger in size.
pub record Ordered (x y : Float) : Type 0 where
  pub large : Short x
  pub small : Short y
  pub plus : large.sign ≡ false
  pub order : amount small ≤ amount large

-- s is x + y as an f64, and finite.
pub record SumOf (x y s : Float) : Type 0 where
  pub is : s ≡ add binary64 x y
  pub bounded : T (finite s)

-- s is p + c as an f64, finite, and above zero.
pub record Above (p c s : Float) : Type 0 where
  pub first : Short p
  pub second : Short c
  pub sum : SumOf p c s
  pub above : lt (from_bits binary64 0) s ≡ true

-- s has at least the size of the smallest normal f32, 2 ^ -126, and is no midpoint of two f32; or it is not finite.
abbrev pub Clear : Float → Type 0
Clear s =
    T (finite s) → (0x3810_0000_0000_0000 ≤ to_bits binary64 s % 2 ^ 63) × (to_bits binary64 s % 2 ^ 29 ≢ 2 ^ 28)

-- What the test for this finds. It may fail for a clear sum, but a sum for which it fails is finite.
pub record Tested (s : Float) (r : Bool) : Type 0 where
  pub clear : r ≡ true → Clear s
  pub plain : r ≡ false → T (finite s)
