-- The four taps around an index i, each read by itself: the indices that the machine computes are the definition's, in
-- either width. Assumes nothing.
use mathlib.Core.Path.{◌≡◌, ap, ◌∙◌}
use mathlib.Core.List.{List}
use Prim.Native.Nat.{ℕ, ◌^◌, ◌≤◌}
use native.Mathlib.Omega.{arith}
use lib.Dec.{lit≤}
use lib.IntN.{ℤ, pos, negsuc, ◌+ℤ◌, ◌-ℤ◌}
use lib.Signed.{mag}
use lib.Ieee.{Float, Format}
use mir.Syntax.{w64}
use mir.Val.{to_z, of_z, SFits}
use mir.ValLaws.{to_z-of_z}
use Rattle.integer_part.proofs.IntegerSizes.{sum_fits}
use Rattle.ring.specs.Taps.{tap_of}
use Rattle.cubic_farrow.specs.Cubic.{weighed}

-- An integer as the code holds it.
abbrev word : ℤ → ℤ
word z = to_z w64 (of_z w64 z)

module _ {i : ℤ} (fits : SFits w64 i) (small : mag i ≤ 2 ^ 36) where
  pub near : (k : ℤ) → mag k ≤ 2 → SFits w64 (word i +ℤ k)
  near k h = rw (to_z-of_z w64 i fits) (sum_fits i k (omega arith))

  index : (k : ℤ) → mag k ≤ 2 → word (word i +ℤ k) ≡ i +ℤ k
  index k h = to_z-of_z w64 (word i +ℤ k) (near k h) ∙ ap (λ (z : ℤ). z +ℤ k) (to_z-of_z w64 i fits)

  pub four-tested : (f : Format) (mu : Float) (xs : List Float) (count : ℕ) {r a b c d : Float}
      → a ≡ tap_of xs count (word (word i -ℤ pos 1)) → b ≡ tap_of xs count (word i)
      → c ≡ tap_of xs count (word (word i +ℤ pos 1)) → d ≡ tap_of xs count (word (word i +ℤ pos 2))
      → r ≡ weighed f mu a b c d
      → r ≡ weighed f mu (tap_of xs count (i -ℤ pos 1)) (tap_of xs count i) (tap_of xs count (i +ℤ pos 1))
      (tap_of xs count (i +ℤ pos 2))
  four-tested f mu xs count a b c d r =
      r ∙ rw (
        a,
        b,
        c,
        d,
        index (negsuc 0) (lit≤ tt),
        index (pos 1) (lit≤ tt),
        index (pos 2) (lit≤ tt),
        to_z-of_z w64 i fits,
      )
