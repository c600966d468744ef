-- Both ways of a reading, taps one by one and taps side by side, give the definition's value, at the integer part z and
-- the fraction mu that the code holds. Assumes nothing.
use mathlib.Core.Path.{◌≡◌, sym, ◌∙◌, ap}
use mathlib.Core.Bool.{true}
use mathlib.Core.List.{List, [], ◌∷◌}
use Prim.Native.Nat.{ℕ, ◌+◌, ◌<◌, ◌≤◌}
use native.Mathlib.Nat.{add-zero}
use native.Mathlib.Omega.{arith}
use lib.Dec.{lit<}
use lib.IntN.{ℤ, pos, negsuc, ◌+ℤ◌, ◌-ℤ◌, +ℤ_idr, +ℤ_assoc, -ℤ-+ℤ_cancel}
use lib.ListN.{length, get_or}
use lib.Ieee.{Float, nan}
use Rattle.integer_part.specs.Parts.{floor_of, fraction_of}
use Rattle.ring.specs.Taps.{tap_of}
use Rattle.ring.specs.Quick.{start_of}
use Rattle.ring.specs.declared.Start.{Start}
use Rattle.ring.proofs.HeldRuns.{straight}
use Rattle.farrow8.specs.Kernel.{polynomial_of, taps_at, farrow_at}

module _ (xs : List Float) (count : ℕ) (p : Float) (z : ℤ) (whole : z ≡ floor_of p) {mu : Float}
    (fraction : mu ≡ fraction_of p) where
  pub one_by_one : {r : Float} → r ≡ polynomial_of (taps_at xs count z) mu → r ≡ farrow_at xs count p
  unfolding farrow_at
  one_by_one e = e ∙ rw (fraction, whole)

  module _ (s : Start) (start : s ≡ start_of (length xs) count (z -ℤ pos 3) 8) (all : s.held ≡ true)
      (fits : s.place + 8 ≤ length xs) where
    tap : (k : ℕ) → k < 8 → {j : ℤ} → z -ℤ pos 3 +ℤ pos k ≡ j → get_or xs (s.place + k) nan ≡ tap_of xs count j
    tap k h e = sym (straight xs count 8 (z -ℤ pos 3) s start all k h (omega arith)) ∙ ap (tap_of xs count) e

    same : (get_or xs s.place nan ∷ get_or xs (s.place + 1) nan ∷ get_or xs (s.place + 2) nan
        ∷ get_or xs (s.place + 3) nan ∷ get_or xs (s.place + 4) nan ∷ get_or xs (s.place + 5) nan
        ∷ get_or xs (s.place + 6) nan ∷ get_or xs (s.place + 7) nan ∷ [])
        ≡ taps_at xs count z
    same =
        rw (
          ap (λ (k : ℕ). get_or xs k nan) (sym (add-zero s.place)) ∙ tap 0 (lit< tt) (+ℤ_idr (z -ℤ pos 3)),
          tap 1 (lit< tt) (+ℤ_assoc z (negsuc 2) (pos 1)),
          tap 2 (lit< tt) (+ℤ_assoc z (negsuc 2) (pos 2)),
          tap 3 (lit< tt) (-ℤ-+ℤ_cancel z (pos 3)),
          tap 4 (lit< tt) (+ℤ_assoc z (negsuc 2) (pos 4)),
          tap 5 (lit< tt) (+ℤ_assoc z (negsuc 2) (pos 5)),
          tap 6 (lit< tt) (+ℤ_assoc z (negsuc 2) (pos 6)),
          tap 7 (lit< tt) (+ℤ_assoc z (negsuc 2) (pos 7)),
        )

    pub side_by_side : {r : Float} {x : List Float} → r ≡ polynomial_of x mu
        → x ≡ (get_or xs s.place nan ∷ get_or xs (s.place + 1) nan ∷ get_or xs (s.place + 2) nan
        ∷ get_or xs (s.place + 3) nan ∷ get_or xs (s.place + 4) nan ∷ get_or xs (s.place + 5) nan
        ∷ get_or xs (s.place + 6) nan ∷ get_or xs (s.place + 7) nan ∷ [])
        → r ≡ farrow_at xs count p
    side_by_side e f = one_by_one (e ∙ ap (λ (x : List Float). polynomial_of x mu) (f ∙ same))
