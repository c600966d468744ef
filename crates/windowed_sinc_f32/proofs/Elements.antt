-- T1. The f32 table by its rows and by its elements: each is that of the f64 table, rounded once. Assumes nothing.
use mathlib.Core.Path.{◌≡◌, ap, ◌∙◌}
use mathlib.Core.List.{map}
use Prim.Native.Nat.{ℕ, ◌+◌, ◌*◌, ◌≤◌, ◌<◌}
use lib.ListN.{length, get_or, length-map, get_or-map, take, drop}
use lib.Ieee.{nan, binary64, div}
use Rattle.rounding.specs.Operations.{narrowed}
use Rattle.loop_laws.proofs.Mapped.{map-part}
use Rattle.sinc_settings.specs.declared.Settings.{Settings}
use Rattle.sinc_settings.specs.Refusals.{table_length}
use Rattle.bessel.specs.declared.Mode.{Mode}
use Rattle.sinc_row.specs.Coefficient.{window_in}
use Rattle.sinc_row.specs.Row.{raw_of, gain_of, row_of}
use Rattle.windowed_sinc.specs.Table.{table_in}
use Rattle.windowed_sinc.proofs.Elements.{length-table, table-row, table-element}
use Rattle.windowed_sinc_f32.specs.Table.{table_f32_in}

module _ (m : Mode) (s : Settings) where
  pub length-table-f32 : length (table_f32_in m s) ≡ table_length s.taps s.phases
  length-table-f32 = length-map (table_in m s) narrowed ∙ length-table m s

  pub table-row-f32 : (phase : ℕ) → phase ≤ s.phases
      → take s.taps (drop (phase * s.taps) (table_f32_in m s)) ≡ map narrowed (row_of s (window_in m s) phase)
  table-row-f32 phase h =
      map-part narrowed (table_in m s) (phase * s.taps) s.taps ∙ ap (map narrowed) (table-row m s phase h)

  -- This holds at every index, inside the table or not, because a NaN stands for a missing element.
  pub rounded-once : (i : ℕ) → get_or (table_f32_in m s) i nan ≡ narrowed (get_or (table_in m s) i nan)
  unfolding narrowed
  rounded-once i = get_or-map narrowed (table_in m s) i nan

  pub table-element-f32 : (phase k : ℕ) → phase ≤ s.phases → k < s.taps
      → get_or (table_f32_in m s) (phase * s.taps + k) nan
      ≡ narrowed (div binary64 (raw_of s (window_in m s) phase k) (gain_of s (window_in m s) phase s.taps))
  table-element-f32 phase k h l = rounded-once (phase * s.taps + k) ∙ ap narrowed (table-element m s phase k h l)
