-- `cubic_farrow_f32::read` meets its contract: each way gives the definition's value, by `QuickWay` and by `at`.
-- Assumes nothing.
use mathlib.Core.Path.{◌≡◌, sym, ◌∙◌}
use mathlib.Core.Bool.{true}
use native.Mathlib.Omega.{arith}
use lib.Ieee.{of_bits}
use Rattle.ring.specs.Places.{position_ok}
use Rattle.cubic_farrow_f32.proofs.QuickWay.{before-fits, fraction-small, inside, reads}
use Rattle.cubic_farrow_f32.proofs.read.Goals as goal
use Rattle.cubic_farrow_f32.proofs.read.Goals.{Then-position_ok}

in-range : (c : Then-position_ok) → position_ok c.args.position ≡ true
in-range c = sym c.position_ok.ensures ∙ c.if-position_ok.true

pub overflow_sub-first : goal.overflow_sub-first
overflow_sub-first c =
    before-fits c.args.position (in-range (goal.at.overflow_sub-first c).Then-position_ok)
    (record { sfits = c.floor-first.type_inv }) c.floor-first.ensures

pub overflow_add-p : goal.overflow_add-p
overflow_add-p c =
    let a = c.args in
    let h =
    inside a.position (in-range (goal.at.overflow_add-p c).Then-position_ok) (record { sfits = c.floor-first.type_inv })
    c.floor-first.ensures
    a.source.now a.count c.run_start-s.ensures c.if-s.true in
    omega (arith, h)

pub single-requires : goal.single-requires
single-requires c =
    fraction-small c.args.position (in-range (goal.at.single-requires c).Then-position_ok) c.fraction.ensures

pub returns-then-p-source : goal.returns-then-p-source
returns-then-p-source c =
    let a = c.args in
    reads a.position (in-range (goal.at.returns-then-p-source c).Then-position_ok)
    (record { sfits = c.floor-first.type_inv }) c.floor-first.ensures
    a.source.now a.count c.run_start-s.ensures c.if-s.true c.if-p-source.true
    c.fraction.ensures c.single.ensures c.side_by_side.ensures

pub at-requires : goal.at-requires
at-requires c = in-range (goal.at.at-requires c).Then-position_ok

pub returns-then-position_ok : goal.returns-then-position_ok
returns-then-position_ok c = rw (in-range (goal.at.returns-then-position_ok c).Then-position_ok) c.at.ensures

pub returns : goal.returns
unfolding of_bits
returns c = rw (← c.position_ok.ensures, c.if-position_ok.false)
