-- W8b. The delay reader of each kernel, a line each: VariableDelay's four kernels, and VariableDelayF32; and the four
-- as one. Assumes nothing.
use mathlib.Core.List.{List}
use Prim.Native.Nat.{ℕ}
use lib.Ieee.{Float}
use Rattle.cubic_farrow.specs.Cubic.{cubic_at}
use Rattle.lagrange.specs.Kernel.{lagrange_at}
use Rattle.farrow8.specs.Kernel.{farrow_at}
use Rattle.sinc_read.specs.Reading.{sinc_at}
use Rattle.sinc_read_f32.specs.Reading.{sinc_f32_at}
use Rattle.kernels.specs.declared.Kernel.{Kernel}
use Rattle.kernels.specs.Kernels.{kernel_at, taps_of}
use Rattle.reads.proofs.Kernels as reads
use Rattle.aging.specs.Calls.{answered, answered_f32, SameBits}
use Rattle.aging.proofs.Answers.{same-bits-f64, same-bits-f32}

pub cubic : SameBits answered 4 cubic_at
cubic = same-bits-f64 4 cubic_at reads.cubic

pub farrow8 : SameBits answered 8 farrow_at
farrow8 = same-bits-f64 8 farrow_at reads.farrow8

pub lagrange : (taps : ℕ) → SameBits answered taps (lagrange_at taps)
lagrange taps = same-bits-f64 taps (lagrange_at taps) (reads.lagrange taps)

module _ (table : List Float) (taps phases : ℕ) where
  pub sinc : SameBits answered taps (sinc_at table taps phases)
  sinc = same-bits-f64 taps (sinc_at table taps phases) (reads.sinc table taps phases)

  pub sinc-f32 : SameBits answered_f32 taps (sinc_f32_at table taps phases)
  sinc-f32 = same-bits-f32 taps (sinc_f32_at table taps phases) (reads.sinc-f32 table taps phases)

pub each : (k : Kernel) (table : List Float) → SameBits answered (taps_of k) (kernel_at k table)
each k table = same-bits-f64 (taps_of k) (kernel_at k table) (reads.each k table)
