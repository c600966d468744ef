-- What `write_table` and `write_rows` need, for a table of either width: the window stands in the front of the buffer,
-- and each row ends within the lent table. Assumes nothing.
use mathlib.Core.Path.{◌≡◌, ap, ◌∙◌}
use mathlib.Core.List.{List, ◌++◌}
use Prim.Native.Nat.{ℕ, ◌+◌, ◌-◌, ◌*◌, ◌≤◌}
use native.Mathlib.Nat.{add-mul, one-mul, mul-le-mul_right}
use native.Mathlib.Omega.{arith}
use lib.ListN.{length, take}
use lib.Ieee.{Float}
use Rattle.loop_laws.specs.Loops.{list_of}
use Rattle.loop_laws.proofs.Lists.{length-list}
use Rattle.loop_laws.proofs.Scratch.{front_fits, front-again}
use Rattle.sinc_settings.specs.declared.Settings.{Settings}
use Rattle.sinc_settings.proofs.SettingsInRange.{counts, accepted}
use Rattle.sinc_settings.proofs.BuilderAccepted.{Fitting}
use Rattle.bessel.specs.declared.Mode.{Mode}
use Rattle.sinc_row.specs.Coefficient.{window_in}
use Rattle.sinc_row.specs.Row.{at, window_after_in}
use Rattle.sinc_row.proofs.WrittenRows.{scratch, window-made, rows-lent}
use Rattle.windowed_sinc.specs.Table.{table_under, table_in}

module _ {s : Settings} {len : ℕ} (lent : Fitting s len) where
  pub most : (s.taps ≤ 128) × (s.phases ≤ 4096)
  most = let m = counts s.taps s.phases (accepted s lent.settings).counted in (m.most-taps, m.most-phases)

  pub row_inside : (phase : ℕ) → phase ≤ s.phases → phase * s.taps + s.taps ≤ len
  row_inside phase h =
      let g : phase + 1 ≤ s.phases + 1 = omega arith in
      omega (arith, lent.long, add-mul phase 1 s.taps, one-mul s.taps, mul-le-mul_right s.taps g)

  -- The buffer, after its front was lent to `write_window_in`.
  module _ (m : Mode) (front rest : List Float) (e : front ≡ window_after_in m s (take (s.taps - 0) scratch)) where
    pub window-fits : s.taps ≤ length (front ++ rest)
    window-fits = front_fits front rest s.taps (window-made m s front lent.settings e).1

    window-again : take (s.taps - 0) (front ++ rest) ≡ list_of (window_in m s) s.taps
    window-again = let w = window-made m s front lent.settings e in front-again front rest s.taps w.1 ∙ w.0

    pub window-long : length (take (s.taps - 0) (front ++ rest)) ≡ s.taps
    window-long = ap length window-again ∙ length-list (window_in m s) s.taps

    pub table-made : table_under (at (take (s.taps - 0) (front ++ rest))) s ≡ table_in m s
    unfolding table_under
    table-made = rows-lent m s (take (s.taps - 0) (front ++ rest)) window-again (s.phases + 1)
