-- A row by its elements, and under a lent window: a row reads the window only below the number of taps. Assumes
-- nothing.
use mathlib.Core.Path.{◌≡◌, ap, ◌∙◌}
use mathlib.Core.List.{List}
use Prim.Native.Nat.{ℕ, ◌<◌}
use lib.ListN.{length, get_or}
use lib.Ieee.{Float, nan, binary64, add, div}
use Rattle.loop_laws.specs.Loops.{list_of}
use Rattle.loop_laws.proofs.Folds.{same}
use Rattle.loop_laws.proofs.Lists.{length-list, element, same-list}
use Rattle.sinc_settings.specs.declared.Settings.{Settings}
use Rattle.sinc_settings.specs.Ranges.{zero-f}
use Rattle.sinc_row.specs.Coefficient.{distance_of, coefficient_of}
use Rattle.sinc_row.specs.Row.{at, raw_of, gain_of, row_of}

pub length-row : (s : Settings) (window : ℕ → Float) (phase : ℕ) → length (row_of s window phase) ≡ s.taps
length-row s window phase = length-list _ s.taps

-- T1. A coefficient is 000's, divided by the sum of its row.
pub coefficient-at : (s : Settings) (window : ℕ → Float) (phase k : ℕ) → k < s.taps
    → get_or (row_of s window phase) k nan ≡ div binary64 (raw_of s window phase k) (gain_of s window phase s.taps)
coefficient-at s window phase k h = element _ s.taps k nan h

-- Two windows that agree below the number of taps.
module _ (s : Settings) (v w : ℕ → Float) (agree : (k : ℕ) → k < s.taps → v k ≡ w k) (phase : ℕ) where
  raw_same : (k : ℕ) → k < s.taps → raw_of s v phase k ≡ raw_of s w phase k
  raw_same k h = ap (coefficient_of s.cutoff (distance_of s phase k)) (agree k h)

  gain-same : gain_of s v phase s.taps ≡ gain_of s w phase s.taps
  gain-same = same _ _ zero-f s.taps (λ k h gain. ap (add binary64 gain) (raw_same k h))

  row_same : row_of s v phase ≡ row_of s w phase
  row_same =
      same-list _ _ s.taps
      (λ k h. ap (λ (x : Float). div binary64 x (gain_of s v phase s.taps)) (raw_same k h)
      ∙ ap (div binary64 (raw_of s w phase k)) gain-same)

-- The row under a window that was written into a list is the row under that window.
pub written : (s : Settings) (window : ℕ → Float) (xs : List Float) → xs ≡ list_of window s.taps
    → (phase : ℕ) → row_of s (at xs) phase ≡ row_of s window phase
written s window xs e phase =
    row_same s (at xs) window
    (λ k h. ap (λ (l : List Float). get_or l k nan) e ∙ element window s.taps k nan h) phase
