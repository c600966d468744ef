-- `fir_filter::fours::quad_run` meets its contract: each chain is a run. Assumes nothing.
use borrow.Author.Rules.{scaled_Fits}
use mathlib.Core.Path.{◌≡◌, refl}
use Prim.Native.Nat.{◌+◌, ◌-◌, ◌<◌}
use native.Mathlib.Omega.{arith}
use lib.ListN.{length}
use Rattle.fir_filter.proofs.RunTurns.{begun, coefficient-there, sample-there, gone, arrived}
use Rattle.fir_filter.proofs.PairSums.{earlier-visits}
use Rattle.fir_filter.proofs.fours.quad_run.Goals as goal
use Rattle.fir_filter.proofs.fours.quad_run.Goals.{In-loop-p}

pub loop-p-init : goal.loop-p-init
loop-p-init c = (
  begun _ _ _ _ _ _ _ _ c.requires.few,
  begun _ _ _ _ _ _ _ _ c.requires.few,
  begun _ _ _ _ _ _ _ _ c.requires.few,
  begun _ _ _ _ _ _ _ _ c.requires.few,
)

-- Inside the loop all five elements are there.
fourth : (c : In-loop-p)
    → c.loop-p.i + 3 < length c.args.coefficients.now
fourth c =
    coefficient-there _ _ _ _ _ _ _ _ _ _ _ _ c.loop-p.invariant.3 c.loop-p-test.true c.requires

sample : (c : In-loop-p) → c.loop-p.p - 1 < length c.args.history.now
sample c =
    sample-there _ _ _ _ _ _ _ _ _ _ _ _ c.loop-p.invariant.3 c.loop-p-test.true c.requires

pub offset_bounds-history-p : goal.offset_bounds-history-p
offset_bounds-history-p c =
    scaled_Fits _ (length c.args.history.now) 8 (sample c) c.well_formed.1.0.1

pub bounds-history-p : goal.bounds-history-p
bounds-history-p c = sample (goal.at.bounds-history-p c).In-loop-p

pub offset_bounds-coefficients-i : goal.offset_bounds-coefficients-i
offset_bounds-coefficients-i c =
    scaled_Fits _ (length c.args.coefficients.now) 8
    (omega (arith, fourth (goal.at.offset_bounds-coefficients-i c).In-loop-p)) c.well_formed.0.1

pub bounds-coefficients-i : goal.bounds-coefficients-i
bounds-coefficients-i c = omega (arith, fourth (goal.at.bounds-coefficients-i c).In-loop-p)

pub overflow_add-b : goal.overflow_add-b
overflow_add-b c = omega (arith, fourth (goal.at.overflow_add-b c).In-loop-p, c.well_formed.0.1)

pub offset_bounds-coefficients-i-in-loop-p : goal.offset_bounds-coefficients-i-in-loop-p
offset_bounds-coefficients-i-in-loop-p c =
    scaled_Fits _ (length c.args.coefficients.now) 8
    (omega (arith, fourth (goal.at.offset_bounds-coefficients-i-in-loop-p c).In-loop-p)) c.well_formed.0.1

pub bounds-coefficients-i-in-loop-p : goal.bounds-coefficients-i-in-loop-p
bounds-coefficients-i-in-loop-p c = omega (arith, fourth (goal.at.bounds-coefficients-i-in-loop-p c).In-loop-p)

pub overflow_add-c : goal.overflow_add-c
overflow_add-c c = omega (arith, fourth (goal.at.overflow_add-c c).In-loop-p, c.well_formed.0.1)

pub offset_bounds-coefficients-i-in-loop-p-2 : goal.offset_bounds-coefficients-i-in-loop-p-2
offset_bounds-coefficients-i-in-loop-p-2 c =
    scaled_Fits _ (length c.args.coefficients.now) 8
    (omega (arith, fourth (goal.at.offset_bounds-coefficients-i-in-loop-p-2 c).In-loop-p)) c.well_formed.0.1

pub bounds-coefficients-i-in-loop-p-2 : goal.bounds-coefficients-i-in-loop-p-2
bounds-coefficients-i-in-loop-p-2 c = omega (arith, fourth (goal.at.bounds-coefficients-i-in-loop-p-2 c).In-loop-p)

pub overflow_add-d : goal.overflow_add-d
overflow_add-d c = omega (arith, fourth (goal.at.overflow_add-d c).In-loop-p, c.well_formed.0.1)

pub offset_bounds-coefficients-i-in-loop-p-3 : goal.offset_bounds-coefficients-i-in-loop-p-3
offset_bounds-coefficients-i-in-loop-p-3 c =
    scaled_Fits _ (length c.args.coefficients.now) 8
    (fourth (goal.at.offset_bounds-coefficients-i-in-loop-p-3 c).In-loop-p) c.well_formed.0.1

pub bounds-coefficients-i-in-loop-p-3 : goal.bounds-coefficients-i-in-loop-p-3
bounds-coefficients-i-in-loop-p-3 c = fourth (goal.at.bounds-coefficients-i-in-loop-p-3 c).In-loop-p

pub overflow_add-i : goal.overflow_add-i
overflow_add-i c =
    omega (arith, fourth (goal.at.overflow_add-i c).In-loop-p, c.well_formed.0.1)

pub loop-p-preserved : goal.loop-p-preserved
loop-p-preserved c =
    let t = c.loop-p-test.true in
    let v = c.requires in
    let n = c.loop-p.i in
    let e : n + 4 + 1 ≡ n + 1 + 4 = omega arith in
    let f : n + 4 + 2 ≡ n + 2 + 4 = omega arith in
    let g : n + 4 + 3 ≡ n + 3 + 4 = omega arith in (
      gone _ _ _ _ _ _ _ _ _ _ _ _ c.loop-p.invariant.0 t (earlier-visits (omega arith) v) _ refl,
      rw e (gone _ _ _ _ _ _ _ _ _ _ _ _ c.loop-p.invariant.1 t (earlier-visits (omega arith) v) _ refl),
      rw f (gone _ _ _ _ _ _ _ _ _ _ _ _ c.loop-p.invariant.2 t (earlier-visits (omega arith) v) _ refl),
      rw g (gone _ _ _ _ _ _ _ _ _ _ _ _ c.loop-p.invariant.3 t v _ refl),
    )

pub returns : goal.returns
returns c =
    let l = c.loop-p in
    rw (
      arrived _ _ _ _ _ _ _ _ _ _ _ _ l.invariant.0 c.loop-p-test.false,
      arrived _ _ _ _ _ _ _ _ _ _ _ _ l.invariant.1 c.loop-p-test.false,
      arrived _ _ _ _ _ _ _ _ _ _ _ _ l.invariant.2 c.loop-p-test.false,
      arrived _ _ _ _ _ _ _ _ _ _ _ _ l.invariant.3 c.loop-p-test.false,
    )
