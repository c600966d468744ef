-- What follows if the tests of `write_window` and `write_row` pass. Assumes nothing.
use mathlib.Core.Path.{◌≡◌}
use mathlib.Core.Bool.{true, ◌&&◌}
use Prim.Native.Nat.{ℕ, ◌≤◌}
use lib.Dec.{T, leb, eqb, leb→le, eqb→eq}
use lib.Ieee.Bits.{is_true}
use lib.Ieee.Fits.{and_l, and_r}
use denote.Floats.{passes}
use Rattle.sinc_settings.specs.declared.Settings.{Settings}
use Rattle.sinc_settings.specs.Ranges.{settings_ok}
use Rattle.sinc_row.specs.Row.{window_ready, row_ready}

pub record Window (s : Settings) (len : ℕ) : Type 0 where
  pub settings : settings_ok s ≡ true
  pub long : len ≡ s.taps

window : (s : Settings) (len : ℕ) → T (window_ready s len) → Window s len
window s len t =
    record {
      settings = is_true _ (and_l (settings_ok s) (eqb len s.taps) t);
      long = eqb→eq len s.taps (and_r (settings_ok s) (eqb len s.taps) t);
    }

pub window-ready : (s : Settings) (len : ℕ) → window_ready s len ≡ true → Window s len
window-ready s len h = window s len (passes (window_ready s len) h)

pub record Row (s : Settings) (phase len lent : ℕ) : Type 0 where
  pub row : Window s len
  pub phase-in : phase ≤ s.phases
  pub window-long : lent ≡ s.taps

pub row-ready : (s : Settings) (phase len lent : ℕ) → row_ready s phase len lent ≡ true → Row s phase len lent
row-ready s phase len lent h =
    let t = passes (row_ready s phase len lent) h in
    let u = and_l (window_ready s len && leb phase s.phases) (eqb lent s.taps) t in
    record {
      row = window s len (and_l (window_ready s len) (leb phase s.phases) u);
      phase-in = leb→le phase s.phases (and_r (window_ready s len) (leb phase s.phases) u);
      window-long = eqb→eq lent s.taps (and_r (window_ready s len && leb phase s.phases) (eqb lent s.taps) t);
    }
