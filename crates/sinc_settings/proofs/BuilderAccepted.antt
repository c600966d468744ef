-- If a builder does not refuse, its settings are in range and the lent table has their length; and a builder by rate
-- accepts only what one by cutoff accepts. Assumes nothing.
use mathlib.Core.Path.{◌≡◌}
use mathlib.Core.Bool.{true, ◌&&◌}
use Prim.Native.Nat.{ℕ}
use lib.Dec.{eqb, eqb→eq}
use lib.Ieee.{Float}
use lib.Ieee.Bits.{is_true}
use lib.Ieee.Fits.{and_r}
use Rattle.answer.proofs.Passed.{passed}
use Rattle.sinc_settings.specs.declared.Settings.{Settings}
use Rattle.sinc_settings.specs.Ranges.{settings_ok, rate_ok, passband_ok}
use Rattle.sinc_settings.specs.Refusals.{table_length, verdict, rate_verdict}

pub record Fitting (s : Settings) (len : ℕ) : Type 0 where
  pub settings : settings_ok s ≡ true
  pub long : len ≡ table_length s.taps s.phases

pub fitting : (s : Settings) (len : ℕ) → verdict s len ≡ 0 → Fitting s len
fitting s len h =
    let p = passed (settings_ok s) (eqb len (table_length s.taps s.phases)) true true true true true true h in
    record { settings = is_true _ p.p1; long = eqb→eq len (table_length s.taps s.phases) p.p2 }

pub by-rate : (s : Settings) (rate passband : Float) (len : ℕ) → rate_verdict s rate passband len ≡ 0
    → verdict s len ≡ 0
by-rate s rate passband len h =
    let p =
    passed ((rate_ok rate && passband_ok passband) && settings_ok s)
    (eqb len (table_length s.taps s.phases)) true true true true true true h in
    let ok = is_true (settings_ok s) (and_r (rate_ok rate && passband_ok passband) (settings_ok s) p.p1) in
    let long = is_true (eqb len (table_length s.taps s.phases)) p.p2 in
    rw (ok, long)
