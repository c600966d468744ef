-- T1. A windowed sinc table by its rows and by its elements: each is 000's coefficient, divided by the sum of its row.
-- Assumes nothing.
use mathlib.Core.Path.{◌≡◌, ◌∙◌}
use Prim.Native.Nat.{ℕ, ◌+◌, ◌*◌, ◌≤◌, ◌<◌}
use native.Mathlib.Omega.{arith}
use lib.ListN.{length, get_or, take, drop}
use lib.Ieee.{nan, binary64, div}
use Rattle.loop_laws.proofs.Rows.{length-rows, row, cell}
use Rattle.sinc_settings.specs.declared.Settings.{Settings}
use Rattle.sinc_settings.specs.Refusals.{table_length}
use Rattle.bessel.specs.declared.Mode.{Mode}
use Rattle.sinc_row.specs.Coefficient.{window_in}
use Rattle.sinc_row.specs.Row.{raw_of, gain_of, row_of}
use Rattle.sinc_row.proofs.Rows.{length-row, coefficient-at}
use Rattle.windowed_sinc.specs.Table.{table_under, table_in}

module _ (m : Mode) (s : Settings) where
  pub length-table : length (table_in m s) ≡ table_length s.taps s.phases
  unfolding table_under
  length-table = length-rows (row_of s (window_in m s)) s.taps (length-row s (window_in m s)) (s.phases + 1)

  pub table-row : (phase : ℕ) → phase ≤ s.phases
      → take s.taps (drop (phase * s.taps) (table_in m s)) ≡ row_of s (window_in m s) phase
  unfolding table_under
  table-row phase h =
      row (row_of s (window_in m s)) s.taps (length-row s (window_in m s)) (s.phases + 1) phase (omega arith)

  pub table-element : (phase k : ℕ) → phase ≤ s.phases → k < s.taps
      → get_or (table_in m s) (phase * s.taps + k) nan
      ≡ div binary64 (raw_of s (window_in m s) phase k) (gain_of s (window_in m s) phase s.taps)
  unfolding table_under
  table-element phase k h l =
      cell (row_of s (window_in m s)) s.taps (length-row s (window_in m s)) (s.phases + 1) phase k nan (omega arith) l
      ∙ coefficient-at s (window_in m s) phase k l
