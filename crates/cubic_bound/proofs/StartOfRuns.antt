-- The runs of Demand 3 start where opening and reset leave a reader. If these are not refused, the state has accepted
-- nothing, and the ring, of the length that the settings need, is all zeros. Opening is the reset of such a state.
-- Assumes nothing.
use mathlib.Core.Path.{◌≡◌, ap, ◌∙◌}
use mathlib.Core.Bool.{true}
use mathlib.Core.List.{List}
use Prim.Native.Nat.{ℕ, ◌^◌}
use lib.Dec.{eqb, leb, eqb→eq}
use lib.ListN.{length}
use lib.Ieee.{Float}
use Rattle.answer.proofs.Passed.{passed}
use Rattle.ring.specs.Length.{settings_ok, length_for}
use Rattle.variable_delay.specs.Opening.{reset_verdict, reset_of, ring_reset}
use Rattle.variable_delay.specs.declared.VariableDelay.{VariableDelay}
use Rattle.variable_delay.specs.declared.Opened.TheVariants.{Reader}
use Rattle.runs.specs.Runs.{opened}
use Rattle.runs.proofs.Opened.{reset-leaves}
use Rattle.cubic_bound.specs.Demand.{start}

pub reset-starts : (d : VariableDelay) (zs : List Float) → reset_verdict d (length zs) ≡ 0
    → (reset_of d (length zs) ≡ Reader (start d.maximum d.margin).state)
    × (ring_reset d zs ≡ (start d.maximum d.margin).ring)
reset-starts d zs e =
    let ranges = settings_ok d.maximum d.margin in
    let fills = eqb (length zs) (length_for d.maximum d.margin) in
    let p = passed ranges fills (leb d.accepted (2 ^ 36)) true true true true true e in
    let long : length zs ≡ length_for d.maximum d.margin = eqb→eq _ _ p.p2 in
    let l = reset-leaves d zs e in
    (l.0, l.1 ∙ ap (λ (n : ℕ). (opened d.maximum d.margin n).ring) long)
