-- `fir_filter::pairs::two_run` meets its contract: each chain is a run, four turns at once and then turn by turn.
-- Assumes nothing.
use borrow.Author.Rules.{scaled_Fits}
use mathlib.Core.Path.{◌≡◌, refl}
use Prim.Native.Nat.{◌+◌, ◌-◌, ◌<◌}
use native.Mathlib.Omega.{arith}
use lib.ListN.{length}
use Rattle.fir_filter.specs.Runs.{Visits}
use Rattle.fir_filter.proofs.RunTurns.{begun, coefficient-there, sample-there, gone, arrived}
use Rattle.fir_filter.proofs.FourTurns.{visits-four, gone-four, there}
use Rattle.fir_filter.proofs.PairSums.{earlier-visits}
use Rattle.fir_filter.proofs.pairs.two_run.Goals as goal
use Rattle.fir_filter.proofs.pairs.two_run.Goals.{In-loop-p, In-loop-p-2}

pub overflow_sub-end : goal.overflow_sub-end
overflow_sub-end c = c.requires.few

pub loop-p-init : goal.loop-p-init
loop-p-init c = (begun _ _ _ _ _ _ _ _ c.requires.few, begun _ _ _ _ _ _ _ _ c.requires.few)

pub overflow_add-end : goal.overflow_add-end
overflow_add-end c = omega (arith, c.requires.few, c.requires.high, c.well_formed.1.0.1)

-- Four turns at once.
visits : (c : In-loop-p) → let a = c.args in
    Visits (length a.coefficients.now) (length a.history.now) (c.loop-p.i + 1) 2
    c.loop-p.p 4
visits c = visits-four _ _ _ _ _ _ _ _ _ _ _ _ c.loop-p.invariant.1 c.loop-p-test.true c.requires

pub four-a-requires : goal.four-a-requires
four-a-requires c = earlier-visits (omega arith) (visits c)

pub overflow_add-i : goal.overflow_add-i
overflow_add-i c =
    omega (arith, (there _ _ _ _ _ (visits (goal.at.overflow_add-i c).In-loop-p)).first, c.well_formed.0.1)

pub four-b-requires : goal.four-b-requires
four-b-requires c = visits (goal.at.four-b-requires c).In-loop-p

pub overflow_sub-p : goal.overflow_sub-p
overflow_sub-p c = let t = c.loop-p-test.true in omega arith

pub overflow_add-i-in-loop-p : goal.overflow_add-i-in-loop-p
overflow_add-i-in-loop-p c =
    omega (arith, (there _ _ _ _ _ (visits (goal.at.overflow_add-i-in-loop-p c).In-loop-p)).fourth, c.well_formed.0.1)

pub loop-p-smaller : goal.loop-p-smaller
loop-p-smaller c = let t = c.loop-p-test.true in omega arith

pub loop-p-preserved : goal.loop-p-preserved
loop-p-preserved c =
    let l = c.loop-p in
    let t = c.loop-p-test.true in
    let v = c.requires in
    let e : l.i + 8 + 1 ≡ l.i + 1 + 8 = omega arith in (
      gone-four _ _ _ _ _ _ _ _ _ _ _ _ l.invariant.0 t (earlier-visits (omega arith) v) _ c.four-a.ensures,
      rw e (gone-four _ _ _ _ _ _ _ _ _ _ _ _ l.invariant.1 t v _ c.four-b.ensures),
    )

pub loop-p-2-init : goal.loop-p-2-init
loop-p-2-init c = c.loop-p.invariant

-- Turn by turn: inside the loop all three elements are there.
second : (c : In-loop-p-2) → c.loop-p-2.i + 1 < length c.args.coefficients.now
second c =
    coefficient-there _ _ _ _ _ _ _ _ _ _ _ _ c.loop-p-2.invariant.1 c.loop-p-2-test.true c.requires

sample : (c : In-loop-p-2)
    → c.loop-p-2.p - 1 < length c.args.history.now
sample c =
    sample-there _ _ _ _ _ _ _ _ _ _ _ _ c.loop-p-2.invariant.1 c.loop-p-2-test.true c.requires

first : (c : In-loop-p-2) → c.loop-p-2.i < length c.args.coefficients.now
first c = omega (arith, second c)

pub overflow_sub-p-in-loop-p-2 : goal.overflow_sub-p-in-loop-p-2
overflow_sub-p-in-loop-p-2 c = omega (arith, c.loop-p-2-test.true)

pub offset_bounds-history-p : goal.offset_bounds-history-p
offset_bounds-history-p c =
    scaled_Fits _ (length c.args.history.now) 8 (sample c) c.well_formed.1.0.1

pub bounds-history-p : goal.bounds-history-p
bounds-history-p c = sample (goal.at.bounds-history-p c).In-loop-p-2

pub offset_bounds-coefficients-i : goal.offset_bounds-coefficients-i
offset_bounds-coefficients-i c =
    scaled_Fits _ (length c.args.coefficients.now) 8 (first (goal.at.offset_bounds-coefficients-i c).In-loop-p-2)
    c.well_formed.0.1

pub bounds-coefficients-i : goal.bounds-coefficients-i
bounds-coefficients-i c = first (goal.at.bounds-coefficients-i c).In-loop-p-2

pub overflow_add-b : goal.overflow_add-b
overflow_add-b c = omega (arith, second (goal.at.overflow_add-b c).In-loop-p-2, c.well_formed.0.1)

pub offset_bounds-coefficients-i-in-loop-p-2 : goal.offset_bounds-coefficients-i-in-loop-p-2
offset_bounds-coefficients-i-in-loop-p-2 c =
    scaled_Fits _ (length c.args.coefficients.now) 8
    (second (goal.at.offset_bounds-coefficients-i-in-loop-p-2 c).In-loop-p-2) c.well_formed.0.1

pub bounds-coefficients-i-in-loop-p-2 : goal.bounds-coefficients-i-in-loop-p-2
bounds-coefficients-i-in-loop-p-2 c = second (goal.at.bounds-coefficients-i-in-loop-p-2 c).In-loop-p-2

pub overflow_add-i-in-loop-p-2 : goal.overflow_add-i-in-loop-p-2
overflow_add-i-in-loop-p-2 c = omega (
  arith,
  second (goal.at.overflow_add-i-in-loop-p-2 c).In-loop-p-2,
  c.well_formed.0.1,
)

pub loop-p-2-smaller : goal.loop-p-2-smaller
loop-p-2-smaller c = let t = c.loop-p-2-test.true in omega arith

pub loop-p-2-preserved : goal.loop-p-2-preserved
loop-p-2-preserved c =
    let l = c.loop-p-2 in
    let t = c.loop-p-2-test.true in
    let v = c.requires in
    let e : l.i + 2 + 1 ≡ l.i + 1 + 2 = omega arith in (
      gone _ _ _ _ _ _ _ _ _ _ _ _ l.invariant.0 t (earlier-visits (omega arith) v) _ refl,
      rw e (gone _ _ _ _ _ _ _ _ _ _ _ _ l.invariant.1 t v _ refl),
    )

pub returns : goal.returns
returns c =
    let l = c.loop-p-2 in
    rw (
      arrived _ _ _ _ _ _ _ _ _ _ _ _ l.invariant.0 c.loop-p-2-test.false,
      arrived _ _ _ _ _ _ _ _ _ _ _ _ l.invariant.1 c.loop-p-2-test.false,
    )
