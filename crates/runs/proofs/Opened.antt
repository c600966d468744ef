-- K8 since opening or reset: the count is the number of accepted calls, and a tap of the ring is the accepted sample
-- with its number. Assumes nothing.
use mathlib.Core.Path.{◌≡◌, sym, ◌∙◌, ap}
use mathlib.Core.List.{List}
use Prim.Native.Nat.{ℕ}
use native.Mathlib.Nat.{zero-add}
use lib.IntN.{ℤ}
use lib.ListN.{length, length-map}
use lib.Ieee.{Float}
use Rattle.ring.specs.Taps.{tap_at}
use Rattle.variable_delay.specs.Opening.{fresh, reset_verdict, reset_of, ring_reset}
use Rattle.variable_delay.specs.declared.VariableDelay.{VariableDelay}
use Rattle.variable_delay.specs.declared.Opened.TheVariants.{Reader}
use Rattle.runs.specs.Runs.{Call, opened, run, accepted, with_count, samples}
use Rattle.runs.specs.Runs as runs
use Rattle.runs.specs.Filled.{filled, numbered}
use Rattle.runs.proofs.Counted.{counted, ring_of}
use Rattle.runs.proofs.Filled.{tap-numbered}

-- What a reset that is not refused leaves.
pub reset-leaves : (d : VariableDelay) (xs : List Float) → reset_verdict d (length xs) ≡ 0
    → (reset_of d (length xs) ≡ Reader (fresh d.maximum d.margin))
    × (ring_reset d xs ≡ (opened d.maximum d.margin (length xs)).ring)
reset-leaves d xs e = (rw e, rw e)

module _ (maximum margin len : ℕ) (cs : List Call) where
  -- The samples accepted since then, from number 0 on.
  abbrev pub since : List Float
  since = samples (accepted (opened maximum margin len) cs)

  abbrev pub left : runs.Reader
  left = run (opened maximum margin len) cs

  pub state-is : left.state ≡ with_count (fresh maximum margin) (length since)
  state-is =
      counted (opened maximum margin len) cs
      ∙ ap (with_count (fresh maximum margin))
      (zero-add _ ∙ sym (length-map (accepted (opened maximum margin len) cs) (λ c. c.input)))

  pub ring-is : left.ring ≡ filled len since
  ring-is = ring_of (opened maximum margin len) cs

  pub tap-is : (z : ℤ) → tap_at left.ring left.state.accepted z ≡ numbered len since z
  tap-is z = rw (ring-is, state-is) (tap-numbered len since z)
