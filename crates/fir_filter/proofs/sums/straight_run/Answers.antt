-- `fir_filter::sums::straight_run` meets its contract: eight turns at once, then turn by turn. Assumes nothing.
use borrow.Author.Rules.{scaled_Fits}
use mathlib.Core.Path.{◌≡◌, refl}
use Prim.Native.Nat.{◌+◌, ◌-◌, ◌<◌}
use native.Mathlib.Omega.{arith}
use lib.ListN.{length}
use Rattle.fir_filter.specs.Runs.{plain_to, Visits}
use Rattle.fir_filter.proofs.RunTurns.{Going, begun, coefficient-there, sample-there, gone, arrived}
use Rattle.fir_filter.proofs.FourTurns.{visits-four, gone-four, there}
use Rattle.fir_filter.proofs.sums.straight_run.Goals as goal
use Rattle.fir_filter.proofs.sums.straight_run.Goals.{After-four-half, In-loop-p, In-loop-p-2}

pub overflow_sub-end : goal.overflow_sub-end
overflow_sub-end c = c.requires.few

pub loop-p-init : goal.loop-p-init
loop-p-init c = begun _ _ _ _ _ _ _ _ c.requires.few

pub overflow_add-end : goal.overflow_add-end
overflow_add-end c =
    omega (arith, c.requires.few, c.requires.high, c.well_formed.1.0.1)

-- Eight turns at once, as four and four.
visits : (c : In-loop-p) → let a = c.args in
    Visits (length a.coefficients.now) (length a.history.now) c.loop-p.i 1 c.loop-p.p 4
visits c =
    let t = c.loop-p-test.true in
    visits-four _ _ _ _ _ _ _ _ _ _ _ _ c.loop-p.invariant (omega arith) c.requires

-- After the first four.
abbrev Half : (c : After-four-half) → Type 0
Half c =
    let a = c.args in
    let l = c.loop-p in
    Going plain_to a.coefficients.now a.history.now a.index 1 a.above a.count a.start
    (a.above - a.count) c.four-half.result (l.i + 4) (l.p - 4)

half : (c : After-four-half) → Half c
half c =
    let t = c.loop-p-test.true in
    gone-four _ _ _ _ _ _ _ _ _ _ _ _ c.loop-p.invariant (omega arith) c.requires _
    c.four-half.ensures

visits-half : (c : After-four-half) → let a = c.args in
    Visits (length a.coefficients.now) (length a.history.now) (c.loop-p.i + 4) 1
    (c.loop-p.p - 4) 4
visits-half c =
    let t = c.loop-p-test.true in
    visits-four _ _ _ _ _ _ _ _ _ _ _ _ (half c) (omega arith) c.requires

pub four-half-requires : goal.four-half-requires
four-half-requires c = visits c

pub overflow_add-i : goal.overflow_add-i
overflow_add-i c =
    omega (arith, (there _ _ _ _ _ (visits (goal.at.overflow_add-i c).In-loop-p)).fourth, c.well_formed.0.1)

pub overflow_sub-p : goal.overflow_sub-p
overflow_sub-p c = let t = c.loop-p-test.true in omega arith

pub four-sum-requires : goal.four-sum-requires
four-sum-requires c = visits-half c

pub overflow_sub-p-in-loop-p : goal.overflow_sub-p-in-loop-p
overflow_sub-p-in-loop-p c = let t = c.loop-p-test.true in omega arith

pub overflow_add-i-in-loop-p : goal.overflow_add-i-in-loop-p
overflow_add-i-in-loop-p c =
    omega (
      arith,
      (there _ _ _ _ _ (visits-half (goal.at.overflow_add-i-in-loop-p c).After-four-half)).fourth,
      c.well_formed.0.1,
    )

pub loop-p-smaller : goal.loop-p-smaller
loop-p-smaller c = let t = c.loop-p-test.true in omega arith

pub loop-p-preserved : goal.loop-p-preserved
loop-p-preserved c =
    let l = c.loop-p in
    let t = c.loop-p-test.true in
    let e : l.i + 8 ≡ l.i + 4 + 4 = omega arith in
    let f : l.p - 8 ≡ l.p - 4 - 4 = omega arith in
    rw (e, f)
    (gone-four _ _ _ _ _ _ _ _ _ _ _ _ (half (goal.at.loop-p-preserved c).After-four-half) (omega arith) c.requires _
    c.four-sum.ensures)

pub loop-p-2-init : goal.loop-p-2-init
loop-p-2-init c = c.loop-p.invariant

-- Turn by turn.
coefficient : (c : In-loop-p-2)
    → c.loop-p-2.i < length c.args.coefficients.now
coefficient c =
    coefficient-there _ _ _ _ _ _ _ _ _ _ _ _ c.loop-p-2.invariant c.loop-p-2-test.true c.requires

sample : (c : In-loop-p-2)
    → c.loop-p-2.p - 1 < length c.args.history.now
sample c =
    sample-there _ _ _ _ _ _ _ _ _ _ _ _ c.loop-p-2.invariant c.loop-p-2-test.true c.requires

pub overflow_sub-p-in-loop-p-2 : goal.overflow_sub-p-in-loop-p-2
overflow_sub-p-in-loop-p-2 c = omega (arith, c.loop-p-2-test.true)

pub offset_bounds-coefficients-i : goal.offset_bounds-coefficients-i
offset_bounds-coefficients-i c =
    scaled_Fits _ (length c.args.coefficients.now) 8 (coefficient c) c.well_formed.0.1

pub bounds-coefficients-i : goal.bounds-coefficients-i
bounds-coefficients-i c = coefficient (goal.at.bounds-coefficients-i c).In-loop-p-2

pub offset_bounds-history-p : goal.offset_bounds-history-p
offset_bounds-history-p c =
    scaled_Fits _ (length c.args.history.now) 8 (sample (goal.at.offset_bounds-history-p c).In-loop-p-2)
    c.well_formed.1.0.1

pub bounds-history-p : goal.bounds-history-p
bounds-history-p c = sample (goal.at.bounds-history-p c).In-loop-p-2

pub overflow_add-i-in-loop-p-2 : goal.overflow_add-i-in-loop-p-2
overflow_add-i-in-loop-p-2 c =
    omega (arith, coefficient (goal.at.overflow_add-i-in-loop-p-2 c).In-loop-p-2, c.well_formed.0.1)

pub loop-p-2-smaller : goal.loop-p-2-smaller
loop-p-2-smaller c = let t = c.loop-p-2-test.true in omega arith

pub loop-p-2-preserved : goal.loop-p-2-preserved
loop-p-2-preserved c =
    gone _ _ _ _ _ _ _ _ _ _ _ _ c.loop-p-2.invariant c.loop-p-2-test.true c.requires _ refl

pub returns : goal.returns
returns c = arrived _ _ _ _ _ _ _ _ _ _ _ _ c.loop-p-2.invariant c.loop-p-2-test.false
