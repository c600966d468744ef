-- C4. The number of a builder's answer is that of the refusal. That a refused build writes nothing (D1c) is
-- windowed_sinc's `not_written`. Assumes nothing.
use mathlib.Core.Path.{◌≡◌, refl}
use Prim.Native.Nat.{ℕ, zero, suc}
use lib.Ieee.{Float}
use Rattle.sinc_bank_f32.specs.Building.{built_by, number_of}

pub number_is : (v : ℕ) (top : Float) → number_of (built_by v top) ≡ v
number_is zero top = refl
number_is (suc k) top = refl
