-- Absent taps: those ahead of the newest sample read zero, and a fused step over a zero equals a product and a sum.
-- Assumes nothing.
use mathlib.Core.Path.{◌≡◌, refl, ◌∙◌, ap}
use mathlib.Core.Bool.{false}
use mathlib.Core.List.{List}
use Prim.Native.Nat.{ℕ, ◌+◌, ◌*◌, ◌≤◌}
use native.Mathlib.Nat.{zero-mul}
use borrow.Author.Tests.{le-ltb}
use lib.IntN.{ℤ, pos, ◌+ℤ◌}
use lib.Ieee.{Float, nan, inf, fin, binary32, up, add, mul, of_bits}
use Rattle.answer.specs.Answers.{zero-f}
use Rattle.rounding.specs.Operations.{fused}
use Rattle.rounding.proofs.Fusing.{no-product}
use Rattle.rounding.proofs.Sums.{zero_bits}
use Rattle.ring.specs.Taps.{tap_of}

pub ahead-zero : (xs : List Float) (count i k : ℕ) {z : ℤ} → z ≡ pos i → count ≤ i + k
    → tap_of xs count (z +ℤ pos k) ≡ zero-f
ahead-zero xs count i k e h = rw (e, le-ltb (i + k) count h)

pub zero-step : (c s : Float) → add binary32 (mul binary32 (of_bits binary32 0) c) s ≡ fused binary32 zero-f c s
unfolding fused mul add
zero-step c s = ap (λ (z : Float). add binary32 (mul binary32 z c) s) (zero_bits binary32) ∙ go c
  where
    go : (c : Float) → add binary32 (mul binary32 zero-f c) s ≡ fused binary32 zero-f c s
    go nan = refl
    go (inf t) = refl
    go (fin t n d) =
        no-product binary32 false 0 (pos 0) t n d s
        (ap (λ (o : ℕ). o * (n * up d)) (zero-mul (up (pos 0))) ∙ zero-mul (n * up d))
