-- Eight more taps, or fewer, of the outer loop: the weights in the lanes are the definition's, and so are the samples.
-- Assumes nothing.
use mathlib.Core.Path.{◌≡◌, ap, ◌∙◌}
use mathlib.Core.List.{List}
use Prim.Native.Nat.{ℕ, ◌+◌, ◌<◌, ◌≤◌}
use native.Mathlib.Omega.{arith}
use lib.IntN.{ℤ, pos, ◌+ℤ◌}
use lib.Ieee.{Float}
use Rattle.loop_laws.specs.Loops.{fold}
use Rattle.loop_laws.proofs.Folds.{same, split}
use Rattle.ring.specs.Taps.{tap_of}
use Rattle.lagrange.specs.Kernel.{turn_of, zero-f}
use Rattle.lagrange.specs.Eights.{Weights, tap_turn}

module _ (xs : List Float) (count : ℕ) (base : ℤ) (local : Float) (taps first n : ℕ) (few : n ≤ 8) (w : List Float)
    (ws : Weights local first taps w) {start r : Float} where
  pub next : (x : ℕ → Float) → ((k : ℕ) → k < n → x k ≡ tap_of xs count (base +ℤ pos (first + k)))
      → start ≡ fold (turn_of xs count base local taps) zero-f first → r ≡ fold (tap_turn x w) start n
      → r ≡ fold (turn_of xs count base local taps) zero-f (first + n)
  next x h s e =
      e
      ∙ same (tap_turn x w) (λ k. turn_of xs count base local taps (first + k)) start n
      (λ k l v. rw (h k l, ws.weight k (omega arith)))
      ∙ ap (λ (v : Float). fold (λ (k : ℕ). turn_of xs count base local taps (first + k)) v n) s
      ∙ split (turn_of xs count base local taps) zero-f first n
