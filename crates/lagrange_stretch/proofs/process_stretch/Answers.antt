-- `lagrange_stretch::process_stretch` meets its contract, by the laws of a stretch's loop for any kernel. Assumes
-- nothing.
use borrow.Author.Rules.{scaled_Fits}
use mathlib.Core.Path.{◌≡◌, ◌∙◌}
use mathlib.Core.Bool.{true}
use native.Mathlib.Omega.{arith}
use lib.Ieee.{nan}
use lib.ListN.{length}
use Rattle.stretch_call.proofs.Loops.{Ready, not-begun, starts, ready, stops, all_done}
use Rattle.lagrange_stretch.proofs.process_stretch.Goals as goal
use Rattle.lagrange_stretch.proofs.process_stretch.Goals.{Else-not-passes}

pub returns-then-no-ne0 : goal.returns-then-no-ne0
returns-then-no-ne0 c =
    not-begun _ _ true _ _ _ _ _ _ (c.refused_first-no.ensures ∙ rw c.taps_ok-own.ensures)
    c.if-no-ne0.true

pub loop-k-init : goal.loop-k-init
loop-k-init c =
    starts _ _ true _ _ _ _ _ (c.refused_first-no.ensures ∙ rw c.taps_ok-own.ensures)
    c.if-no-ne0.false

pub bounds-delays-k : goal.bounds-delays-k
bounds-delays-k c = let g = c.loop-k.invariant in omega (arith, g.alike)

pub returns-then-not-passes : goal.returns-then-not-passes
returns-then-not-passes c =
    stops _ _ true _ _ _ _ _ c.loop-k.invariant nan c.loop-k-test.true _ c.due.ensures c.passes.ensures
    c.if-not-passes.true

-- The item that is accepted.
here : (c : Else-not-passes)
    → Ready _ _ true _ _ _ _ _ c.loop-k.invariant nan c.loop-k-test.true
here c = ready _ _ true _ _ _ _ _ c.loop-k.invariant nan _ c.passes.ensures c.if-not-passes.false

pub overflow_sub-at : goal.overflow_sub-at
overflow_sub-at c = (here c).some

pub offset_bounds-ring-at : goal.offset_bounds-ring-at
offset_bounds-ring-at c =
    scaled_Fits _ _ 8 (here c).inside-lent
    c.well_formed.1.0.1

pub bounds-ring-at : goal.bounds-ring-at
bounds-ring-at c = (here c).inside

pub overflow_add-i : goal.overflow_add-i
overflow_add-i c = omega (arith, (here (goal.at.overflow_add-i c).Else-not-passes).below)

pub overflow_cast-i : goal.overflow_cast-i
overflow_cast-i c = (here (goal.at.overflow_cast-i c).Else-not-passes).cast

pub int_to_float-i : goal.int_to_float-i
int_to_float-i c = (here (goal.at.int_to_float-i c).Else-not-passes).whole_float

pub bounds-out-k : goal.bounds-out-k
bounds-out-k c = let g = c.loop-k.invariant in omega (arith, c.loop-k-test.true, g.half.long, g.room)

pub overflow_add-i-in-loop-k : goal.overflow_add-i-in-loop-k
overflow_add-i-in-loop-k c = omega (arith, (here (goal.at.overflow_add-i-in-loop-k c).Else-not-passes).below)

pub loop-k-preserved : goal.loop-k-preserved
loop-k-preserved c =
    (here (goal.at.loop-k-preserved c).Else-not-passes).turns
    (λ own lent range. c.one_nan.ensures ∙ c.read-sample.ensures ∙ rw (own, range))

pub shape_of-out : goal.shape_of-out
shape_of-out c = c.loop-k.invariant.half.long

pub returns : goal.returns
returns c =
    let g = c.loop-k.invariant in
    let all : c.loop-k.k ≡ length c.args.inputs.now = omega (arith, g.place) in
    rw (← all) (all_done _ _ true _ _ _ _ _ g (omega arith))
