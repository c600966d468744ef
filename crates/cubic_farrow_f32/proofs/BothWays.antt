-- Both ways of a reading, taps one by one and taps side by side, give the definition's value, at the integer part z and
-- the fraction mu that the code holds. The laws about the taps are those of `cubic_farrow`. Assumes nothing.
use mathlib.Core.Path.{◌≡◌, ◌∙◌}
use mathlib.Core.Bool.{true}
use mathlib.Core.List.{List}
use Prim.Native.Nat.{ℕ, ◌+◌, ◌≤◌}
use lib.IntN.{ℤ, pos, ◌+ℤ◌, ◌-ℤ◌}
use lib.ListN.{length, get_or}
use lib.Ieee.{Float, nan, binary32, binary64, sub, of_int}
use Rattle.rounding.specs.Operations.{narrowed}
use Rattle.integer_part.specs.Parts.{floor_of, fraction_of}
use Rattle.ring.specs.Taps.{tap_of}
use Rattle.ring.specs.Quick.{start_of}
use Rattle.ring.specs.declared.Start.{Start}
use Rattle.cubic_farrow.specs.Cubic.{weighed}
use Rattle.cubic_farrow.proofs.BothWays.{four-held}
use Rattle.cubic_farrow_f32.specs.Draft.{draft_at}

module _ (xs : List Float) (count : ℕ) (p : Float) (z : ℤ) (whole : z ≡ floor_of p) (mu : Float)
    (narrow : mu ≡ narrowed (sub binary64 p (of_int binary64 z))) where
  pub one_by_one : {r : Float}
      → r ≡ weighed binary32 mu (tap_of xs count (z -ℤ pos 1)) (tap_of xs count z) (tap_of xs count (z +ℤ pos 1))
      (tap_of xs count (z +ℤ pos 2))
      → r ≡ draft_at xs count p
  unfolding draft_at fraction_of
  one_by_one e = e ∙ rw (narrow, whole)

  pub side_by_side : (s : Start) → s ≡ start_of (length xs) count (z -ℤ pos 1) 4 → s.held ≡ true
      → s.place + 4 ≤ length xs → {r : Float}
      → r ≡ weighed binary32 mu (get_or xs s.place nan) (get_or xs (s.place + 1) nan) (get_or xs (s.place + 2) nan)
      (get_or xs (s.place + 3) nan)
      → r ≡ draft_at xs count p
  side_by_side s start all fits e = one_by_one (e ∙ four-held binary32 mu xs count z s start all fits)
