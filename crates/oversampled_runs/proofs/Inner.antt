-- W11d. The laws of the inner reader's call, and of what the phases leave, which the direct reader has shown. Assumes
-- nothing.
use mathlib.Core.Path.{◌≡◌}
use mathlib.Core.Bool.{true, cond}
use mathlib.Core.List.{List}
use Prim.Native.Nat.{ℕ, ◌+◌, ◌^◌, ◌≤◌, ◌<◌}
use lib.ListN.{length}
use lib.Ieee.{Float}
use lib.Ieee.Scale.{finite}
use Rattle.constants.specs.Numbers.{zero-f, limit-f}
use Rattle.ring.specs.Length.{settings_ok, length_for}
use Rattle.interval.proofs.Between.{Between}
use Rattle.variable_delay.specs.Reader.{Reading, verdict, processed_by}
use Rattle.variable_delay.specs.declared.VariableDelay.{VariableDelay}
use Rattle.inner_reader.specs.Inner.{stepped_of, ring_stepped}
use Rattle.oversampled_delay.proofs.Inner as direct

pub only-four : (d : VariableDelay) (len : ℕ) (x y : Float) → settings_ok d.maximum d.margin ≡ true
    → len ≡ length_for d.maximum d.margin → d.accepted < 2 ^ 36 → Between zero-f limit-f y
    → verdict true true d len x y ≡ cond (finite x) 0 4
only-four = direct.only-four

-- Whatever the verdict is.
pub one_more : (read : Reading) (v : ℕ) (d : VariableDelay) (xs : List Float) (x y : Float)
    → (stepped_of (processed_by read v d xs x y)).accepted ≤ d.accepted + 1
one_more = direct.one_more

pub ring_long : (d : VariableDelay) (xs : List Float) (x y : Float) → length (ring_stepped d xs x y) ≡ length xs
ring_long = direct.ring_long
