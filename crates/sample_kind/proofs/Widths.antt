-- The size of a frame: it is small, and grows with the channels. Assumes nothing.
use Prim.Native.Nat.{ℕ, ◌≤◌, ◌<◌}
use native.Mathlib.Omega.{arith}
use Rattle.sample_kind.specs.declared.SampleKind.{SampleKind}
use Rattle.sample_kind.specs.declared.SampleKind.TheVariants.{Pcm16, Pcm24, Float32}
use Rattle.sample_kind.specs.Kinds.{frame_of}

pub few_bytes : (kind : SampleKind) (count : ℕ) → count ≤ 255 → frame_of kind count ≤ 1020
few_bytes Pcm16 count h = omega arith
few_bytes Pcm24 count h = omega arith
few_bytes Float32 count h = omega arith

pub fewer_bytes : (kind : SampleKind) (a b : ℕ) → a < b → frame_of kind a < frame_of kind b
fewer_bytes Pcm16 a b h = omega arith
fewer_bytes Pcm24 a b h = omega arith
fewer_bytes Float32 a b h = omega arith
