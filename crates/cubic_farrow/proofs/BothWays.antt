-- Both ways of a reading, taps one by one and taps side by side, give the definition's value, at the integer part z
-- that the code holds. Assumes nothing.
use mathlib.Core.Path.{◌≡◌, sym, ◌∙◌, ap}
use mathlib.Core.Bool.{true}
use mathlib.Core.List.{List}
use Prim.Native.Nat.{ℕ, ◌+◌, ◌<◌, ◌≤◌}
use native.Mathlib.Nat.{add-zero}
use native.Mathlib.Omega.{arith}
use lib.Dec.{lit<}
use lib.IntN.{ℤ, pos, negsuc, ◌+ℤ◌, ◌-ℤ◌, +ℤ_idr, +ℤ_assoc, -ℤ-+ℤ_cancel}
use lib.ListN.{length, get_or}
use lib.Ieee.{Float, Format, nan, binary64, sub, of_int}
use Rattle.integer_part.specs.Parts.{floor_of, fraction_of}
use Rattle.ring.specs.Taps.{tap_of}
use Rattle.ring.specs.Quick.{start_of}
use Rattle.ring.specs.declared.Start.{Start}
use Rattle.ring.proofs.HeldRuns.{straight}
use Rattle.cubic_farrow.specs.Cubic.{weighed, cubic_at}

-- Four elements that stand side by side, weighed in either width, are the taps from z - 1 to z + 2.
module _ (f : Format) (mu : Float) (xs : List Float) (count : ℕ) (z : ℤ) (s : Start)
    (start : s ≡ start_of (length xs) count (z -ℤ pos 1) 4) (all : s.held ≡ true)
    (fits : s.place + 4 ≤ length xs) where
  tap : (k : ℕ) → k < 4 → {j : ℤ} → z -ℤ pos 1 +ℤ pos k ≡ j → get_or xs (s.place + k) nan ≡ tap_of xs count j
  tap k h e = sym (straight xs count 4 (z -ℤ pos 1) s start all k h (omega arith)) ∙ ap (tap_of xs count) e

  pub four-held : weighed f mu (get_or xs s.place nan) (get_or xs (s.place + 1) nan) (get_or xs (s.place + 2) nan)
      (get_or xs (s.place + 3) nan)
      ≡ weighed f mu (tap_of xs count (z -ℤ pos 1)) (tap_of xs count z) (tap_of xs count (z +ℤ pos 1))
      (tap_of xs count (z +ℤ pos 2))
  four-held =
      rw (
        ap (λ (k : ℕ). get_or xs k nan) (sym (add-zero s.place)) ∙ tap 0 (lit< tt) (+ℤ_idr (z -ℤ pos 1)),
        tap 1 (lit< tt) (-ℤ-+ℤ_cancel z (pos 1)),
        tap 2 (lit< tt) (+ℤ_assoc z (negsuc 0) (pos 2)),
        tap 3 (lit< tt) (+ℤ_assoc z (negsuc 0) (pos 3)),
      )

module _ (xs : List Float) (count : ℕ) (p : Float) (z : ℤ) (whole : z ≡ floor_of p) where
  pub one_by_one : {r : Float}
      → r ≡ weighed binary64 (sub binary64 p (of_int binary64 z)) (tap_of xs count (z -ℤ pos 1)) (tap_of xs count z)
      (tap_of xs count (z +ℤ pos 1)) (tap_of xs count (z +ℤ pos 2))
      → r ≡ cubic_at xs count p
  unfolding cubic_at fraction_of
  one_by_one e = e ∙ rw whole

  pub side_by_side : (s : Start) → s ≡ start_of (length xs) count (z -ℤ pos 1) 4 → s.held ≡ true
      → s.place + 4 ≤ length xs → {mu r : Float} → mu ≡ fraction_of p
      → r ≡ weighed binary64 mu (get_or xs s.place nan) (get_or xs (s.place + 1) nan) (get_or xs (s.place + 2) nan)
      (get_or xs (s.place + 3) nan)
      → r ≡ cubic_at xs count p
  unfolding fraction_of
  side_by_side s start all fits {mu} m e =
      one_by_one (e ∙ four-held binary64 mu xs count z s start all fits ∙ rw (m, whole))
