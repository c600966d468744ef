-- A rate from 1 to 2 gives a cutoff 0.995 / rate from 0.4975 to 0.995, which is in the range of a table. So no table of
-- a set is refused. Assumes nothing.
use mathlib.Core.Path.{◌≡◌, refl}
use mathlib.Core.Bool.{true, false}
use Prim.Native.Nat.{ℕ}
use borrow.Author.Tests.{eq-eqb}
use lib.IntN.{negsuc}
use lib.Ieee.{Float, fin, binary64, div, le, lt}
use lib.Ieee.Bits.{is_true}
use lib.Ieee.Fits.{and_i}
use Rattle.interval.proofs.Between.{Between, point, widen}
use Rattle.interval.proofs.Products.{quotient-between}
use Rattle.sinc_settings.specs.Ranges.{one-f, cutoff_ok, beta_ok, taps_ok, phases_ok, passband_ok}
use Rattle.sinc_settings.specs.Refusals.{table_length, for_rate, rate_verdict}
use Rattle.bank_choice.specs.Rates.{bank_ok}
use Rattle.bank_choice.proofs.SetCounts.{in-range}
use Rattle.sinc_bank_f32.specs.Sets.{passband}

abbrev half : Float
half = fin false 8962163258467287 (negsuc 53)

cutoff-between : (rate : Float) → bank_ok rate ≡ true → Between half passband (div binary64 passband rate)
unfolding div le lt
cutoff-between rate ok = quotient-between binary64 tt (point passband tt) (in-range rate ok) tt refl refl tt tt

cutoff-ok : (rate : Float) → bank_ok rate ≡ true → cutoff_ok (div binary64 passband rate) ≡ true
unfolding le
cutoff-ok rate ok =
    let b : Between (fin false 1 (negsuc 9)) one-f (div binary64 passband rate) =
    widen (cutoff-between rate ok) tt tt tt tt in
    is_true _ (and_i (le (fin false 1 (negsuc 9)) (div binary64 passband rate)) (le (div binary64 passband rate) one-f)
    b.above.order b.below.order)

passband-ok : passband_ok passband ≡ true
unfolding le lt
passband-ok = refl

pub unrefused : (taps phases : ℕ) (rate beta : Float) (len : ℕ) → bank_ok rate ≡ true → taps_ok taps ≡ true
    → phases_ok phases ≡ true → beta_ok beta ≡ true → len ≡ table_length taps phases
    → rate_verdict (for_rate taps phases rate passband beta) rate passband len ≡ 0
unrefused taps phases rate beta len ok t p b l =
    rw (ok, passband-ok, t, p, cutoff-ok rate ok, b, eq-eqb len (table_length taps phases) l)
