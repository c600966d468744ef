-- What `write_window` and `write_row` leave if the settings are in range and the lent slices have the length of the
-- taps. Assumes nothing.
use borrow.Author.Tests.{eq-eqb, le-leb}
use mathlib.Core.Path.{◌≡◌, refl, ap, ◌∙◌}
use mathlib.Core.Bool.{true}
use mathlib.Core.List.{List, ◌++◌}
use Prim.Native.Nat.{ℕ, zero, suc, ◌-◌, ◌≤◌}
use lib.ListN.{length, take, replicate}
use Rattle.loop_laws.specs.Loops.{list_of, rows}
use Rattle.loop_laws.proofs.Lists.{length-list}
use Rattle.loop_laws.proofs.Scratch.{length_front}
use lib.Ieee.{Float, binary64, of_bits}
use Rattle.sinc_settings.specs.declared.Settings.{Settings}
use Rattle.sinc_settings.specs.Ranges.{settings_ok}
use Rattle.sinc_settings.proofs.SettingsInRange.{counts, accepted}
use Rattle.bessel.specs.declared.Mode.{Mode}
use Rattle.sinc_row.specs.Coefficient.{window_in}
use Rattle.sinc_row.specs.Row.{at, row_of, window_after_in, row_after}
use Rattle.sinc_row.proofs.Rows.{written}

-- The buffer `[0.0; 128]`, of which the front is lent.
abbrev pub scratch : List Float
scratch = replicate 128 (of_bits binary64 0)

pub few-taps : (s : Settings) → settings_ok s ≡ true → s.taps ≤ 128
few-taps s ok = (counts s.taps s.phases (accepted s ok).counted).most-taps

pub scratch-long : (s : Settings) → settings_ok s ≡ true → length (take (s.taps - 0) scratch) ≡ s.taps
scratch-long s ok = length_front scratch s.taps (few-taps s ok)

pub window-lent : (m : Mode) (s : Settings) (xs : List Float) → settings_ok s ≡ true → length xs ≡ s.taps
    → window_after_in m s xs ≡ list_of (window_in m s) s.taps
window-lent m s xs ok l = rw (ok, eq-eqb _ _ l)

-- The front of the buffer, after it was lent to `write_window_in`.
pub window-made : (m : Mode) (s : Settings) (xs : List Float) → settings_ok s ≡ true
    → xs ≡ window_after_in m s (take (s.taps - 0) scratch)
    → (xs ≡ list_of (window_in m s) s.taps) × (length xs ≡ s.taps)
window-made m s xs ok e =
    let made = e ∙ window-lent m s (take (s.taps - 0) scratch) ok (scratch-long s ok) in
    (made, ap length made ∙ length-list (window_in m s) s.taps)

-- A row under a lent window.
pub row-lent : (s : Settings) (window xs : List Float) (phase : ℕ) → settings_ok s ≡ true → length window ≡ s.taps
    → phase ≤ s.phases → length xs ≡ s.taps → row_after s window phase xs ≡ row_of s (at window) phase
row-lent s window xs phase ok w p l = rw (ok, eq-eqb _ _ l, le-leb _ _ p, eq-eqb _ _ w)

-- All rows under the window that `write_window_in` wrote.
pub rows-lent : (m : Mode) (s : Settings) (window : List Float) → window ≡ list_of (window_in m s) s.taps → (n : ℕ)
    → rows (row_of s (at window)) n ≡ rows (row_of s (window_in m s)) n
unfolding rows
rows-lent m s window e zero = refl
rows-lent m s window e (suc n) =
    ap (λ (xs : List Float). xs ++ row_of s (at window) n) (rows-lent m s window e n)
    ∙ ap (λ (xs : List Float). rows (row_of s (window_in m s)) n ++ xs) (written s (window_in m s) window e n)
