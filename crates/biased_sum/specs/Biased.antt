-- K4. An f32 q is kept as q + C, where C has q's sign and is so large that the last digit of the f64 sum is that of the
-- f32. With u the last digit of an f32 below 2 ^ e, C is 2 ^ (e + 29) - 2 ^ e, which is (2 ^ 53 - 2 ^ 24) u. From C + 2
-- ^ (e - 1) to C + 2 ^ (e + 1) an f64 counts u, and from 2 ^ (e + 29) on 2 u, just as an f32 does from 2 ^ (e - 1) to 2
-- ^ (e + 1). Sizes are in units of 2 ^ -1074, the smallest f64; u is 2 ^ (925 + k) of them. Definitions only.
use Rattle.std.specs.Prelude.{Bool, cond, ℕ, ◌+◌, ◌-◌, ◌*◌, ◌^◌, ◌<◌, T, Float}
use Rattle.std.specs.Float.{binary32}
use Rattle.std.specs.Float.Ieee.{fits}
use Rattle.std.specs.Float.Ieee.Exact.{HasValue}

abbrev pub digit : ℕ → ℕ
digit k = 2 ^ (925 + k)

abbrev pub bias-of : ℕ → ℕ
bias-of k = (2 ^ 53 - 2 ^ 24) * digit k

abbrev pub near_of : ℕ → ℕ
near_of k = (2 ^ 53 - 2 ^ 23) * digit k

abbrev pub far-of : ℕ → ℕ
far-of k = (2 ^ 53 + 2 ^ 24) * digit k

-- m is the bias with the sign s, and low and high are the ends between which a biased sum is accepted, in this order.
pub record Frame (s : Bool) (k : ℕ) (m low high : Float) : Type 0 where
  pub small : k < 252
  pub bias : HasValue m s (bias-of k) (2 ^ 1074)
  pub lower : HasValue low s (cond s (far-of k) (near_of k)) (2 ^ 1074)
  pub upper : HasValue high s (cond s (near_of k) (far-of k)) (2 ^ 1074)

-- b stands for the f32 q with the bias m added.
pub record Biased (m low high b q : Float) : Type 0 where
  pub sign : Bool
  pub k : ℕ
  pub frame : Frame sign k m low high
  pub size : ℕ
  pub some : 0 < size
  pub held : T (fits binary32 q)
  pub value : HasValue q sign size (2 ^ 1074)
  pub biased : HasValue b sign (bias-of k + size) (2 ^ 1074)
