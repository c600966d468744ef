-- T4, T5. At the bank's maximum, or at a rate that is clamped to it, a quality with a table reads only the last set:
-- both sets of the choice are the last one, and nothing is blended. Assumes nothing.
use mathlib.Core.Path.{◌≡◌, refl}
use mathlib.Core.Bool.{Bool, true, false, cond}
use mathlib.Core.List.{List}
use Prim.Native.Nat.{ℕ, ◌+◌, ◌-◌}
use lib.Dec.{T}
use lib.Ieee.{Float, binary64, fits}
use Rattle.min_max.specs.Choice.{clamped}
use Rattle.sinc_settings.specs.Ranges.{one-f}
use Rattle.bank_choice.specs.Rates.{bank_ok, steps_of, rate_of}
use Rattle.bank_choice.specs.Choosing.{lower_of, close_of, chosen_of}
use Rattle.bank_choice.proofs.LastSet.{at-maximum, reads-last}
use Rattle.quality_mode.specs.declared.QualityMode.{QualityMode}
use Rattle.bank_read.specs.Bank.{set_at, table_at, blended, tables_at}

either : (b : Bool) (blend x : Float) → blended (cond b 0 1) blend x x ≡ x
either true blend x = refl
either false blend x = refl

pub last-read : (top rate : Float) → bank_ok top ≡ true → T (fits binary64 top) → clamped rate one-f top ≡ top
    → (q : QualityMode) (sets xs : List Float) (count : ℕ) (p : Float)
    → tables_at (chosen_of top rate) q sets xs count p ≡ table_at q (set_at sets (steps_of top - 1)) xs count p
unfolding tables_at
last-read top rate ok held equal q sets xs count p =
    let n = steps_of top in
    let c = reads-last top ok held rate equal in
    let close = close_of (rate_of top n (n - 1 + 1)) (lower_of top n (n - 1)) in
    rw (c.0, c.1, c.2) (either close (chosen_of top rate).blend (table_at q (set_at sets (n - 1)) xs count p))

-- The rate that 000's process_sample uses.
pub maximum-read : (top : Float) → bank_ok top ≡ true → T (fits binary64 top)
    → (q : QualityMode) (sets xs : List Float) (count : ℕ) (p : Float)
    → tables_at (chosen_of top top) q sets xs count p ≡ table_at q (set_at sets (steps_of top - 1)) xs count p
maximum-read top ok held = last-read top top ok held (at-maximum top ok)
