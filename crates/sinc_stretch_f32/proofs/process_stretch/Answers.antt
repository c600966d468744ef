-- `sinc_stretch_f32::process_stretch` meets its contract: the loop keeps `On`, by `Turns` and `TwoTurns`.
-- Assumes nothing.
use borrow.Author.Rules.{rules, scaled_Fits}
use mathlib.Core.Path.{◌≡◌, refl, sym, ap, ◌∙◌}
use Prim.Native.Nat.{◌+◌, ◌-◌, ◌<◌}
use native.Mathlib.Omega.{arith}
use lib.ListN.{length}
use Rattle.sinc_stretch_f32.proofs.TableTests.{table-tests}
use Rattle.sinc_stretch_f32.proofs.Turns.{On, due, refused-first, starts, at-end, ends, goes_on}
use Rattle.sinc_stretch_f32.proofs.TwoTurns.{first_ends, half-way, second-ends, both-on}
use Rattle.sinc_stretch_f32.proofs.process_stretch.Goals as goal
use Rattle.sinc_stretch_f32.proofs.process_stretch.Goals.{After-refused_first-no, After-served-t, After-served_two-t}

-- The tests 1 to 3.
number : (f : After-refused_first-no) → let a = f.args in
    f.refused_first-no.result
    ≡ due a.table.now a.taps a.phases a.state a.ring.now a.inputs.now a.delays.now
    a.out.now
number f =
    let a = f.args in
    table-tests a.taps a.phases (length a.table.now) a.state (length a.ring.now)
    (length a.inputs.now) (length a.delays.now) (length a.out.now) f.table_refusal-due.ensures
    f.refused_first-no.ensures

pub returns-then-no-ne0 : goal.returns-then-no-ne0
returns-then-no-ne0 c =
    let a = c.args in
    rw c.ended.ensures
    (refused-first a.table.now a.taps a.phases a.state a.ring.now a.inputs.now
    a.delays.now a.out.now _ (number (goal.at.returns-then-no-ne0 c).After-refused_first-no) c.if-no-ne0.true)

pub loop-k-init : goal.loop-k-init
loop-k-init c = (refl, starts _ _ _ _ _ _ _ _ (number (goal.at.loop-k-init c).After-refused_first-no) c.if-no-ne0.false)

-- The places that the needs below go back to.
pub overflow_sub-n : goal.overflow_sub-n
overflow_sub-n c = omega (arith, c.loop-k.invariant.0, c.loop-k.invariant.1.place)

pub bounds-inputs-k : goal.bounds-inputs-k
bounds-inputs-k c =
    omega (arith, c.loop-k-test.true, c.loop-k.invariant.0)

pub bounds-delays-k : goal.bounds-delays-k
bounds-delays-k c =
    omega (arith, c.loop-k-test.true, c.loop-k.invariant.0, c.loop-k.invariant.1.alike)

pub bounds-inputs-k-in-loop-k : goal.bounds-inputs-k-in-loop-k
bounds-inputs-k-in-loop-k c =
    omega (arith, c.loop-k-test.true, c.loop-k.invariant.0)

pub bounds-delays-k-in-loop-k : goal.bounds-delays-k-in-loop-k
bounds-delays-k-in-loop-k c =
    omega (arith, c.loop-k-test.true, c.loop-k.invariant.0, c.loop-k.invariant.1.alike)

-- Two items are left.
more : (s : After-served_two-t) →
    s.loop-k.k + 1 < length s.args.inputs.now
more s =
    let t = s.loop-k-test.true in
    omega (arith, t, s.loop-k.invariant.0)

pub returns-then-t-ne0 : goal.returns-then-t-ne0
returns-then-t-ne0 c =
    rw c.ended-then-t-ne0.ensures
    (first_ends _ _ _ _ _ _ _ _ c.loop-k.invariant.1 _ (more (goal.at.returns-then-t-ne0 c).After-served_two-t)
    c.served_two-t.ensures c.if-t-ne0.true)

pub offset_bounds-out-k : goal.offset_bounds-out-k
offset_bounds-out-k c =
    let t = more (goal.at.offset_bounds-out-k c).After-served_two-t in
    let h : c.loop-k.k < length c.args.out.now = omega (arith, t, c.loop-k.invariant.1.room) in
    scaled_Fits _ _ 4 h c.well_formed.1.1.1.1.0.1

pub bounds-out-k : goal.bounds-out-k
bounds-out-k c =
    let t = more (goal.at.bounds-out-k c).After-served_two-t in
    omega (arith, t, c.loop-k.invariant.1.room, c.loop-k.invariant.1.half.long)

pub overflow_add-i : goal.overflow_add-i
overflow_add-i c = record { fits = omega (arith, c.loop-k.invariant.1.bound) }

pub overflow_add-k-in-loop-k-2 : goal.overflow_add-k-in-loop-k-2
overflow_add-k-in-loop-k-2 c =
    let t = more (goal.at.overflow_add-k-in-loop-k-2 c).After-served_two-t in
    record { fits = omega (arith, t, c.well_formed.1.1.0.1) }

pub returns-then-t-ne0-2 : goal.returns-then-t-ne0-2
returns-then-t-ne0-2 c =
    rw c.ended-then-t-ne0-2.ensures
    (second-ends _ _ _ _ _ _ _ _ c.loop-k.invariant.1 _ (more (goal.at.returns-then-t-ne0-2 c).After-served_two-t)
    c.served_two-t.ensures
    c.if-t-ne0.false c.if-t-ne0-2.true)

pub offset_bounds-out-k-in-loop-k : goal.offset_bounds-out-k-in-loop-k
offset_bounds-out-k-in-loop-k c =
    let t = more (goal.at.offset_bounds-out-k-in-loop-k c).After-served_two-t in
    let h : c.loop-k.k + 1 < length c.args.out.now = omega (arith, t, c.loop-k.invariant.1.room) in
    scaled_Fits _ _ 4 h c.well_formed.1.1.1.1.0.1

pub bounds-out-k-in-loop-k : goal.bounds-out-k-in-loop-k
bounds-out-k-in-loop-k c =
    let g = c.loop-k.invariant.1 in
    let t = more (goal.at.bounds-out-k-in-loop-k c).After-served_two-t in
    let h = half-way _ _ _ _ _ _ _ _ g _ t c.served_two-t.ensures c.if-t-ne0.false in
    omega (arith, t, g.room, h.half.long)

pub overflow_add-i-in-loop-k : goal.overflow_add-i-in-loop-k
overflow_add-i-in-loop-k c =
    record { fits = omega (arith, c.loop-k.invariant.1.bound) }

pub overflow_add-k-in-loop-k-3 : goal.overflow_add-k-in-loop-k-3
overflow_add-k-in-loop-k-3 c =
    let t = more (goal.at.overflow_add-k-in-loop-k-3 c).After-served_two-t in
    record { fits = omega (arith, t, c.well_formed.1.1.0.1) }

pub loop-k-smaller : goal.loop-k-smaller
loop-k-smaller c =
    let t = c.loop-k-test.true in
    omega (arith, t)

pub loop-k-preserved : goal.loop-k-preserved
loop-k-preserved c = (
  refl,
  both-on _ _ _ _ _ _ _ _ c.loop-k.invariant.1 _ (more (goal.at.loop-k-preserved c).After-served_two-t)
      c.served_two-t.ensures
      c.if-t-ne0.false c.if-t-ne0-2.false,
)

pub bounds-inputs-k-then-k-n : goal.bounds-inputs-k-then-k-n
bounds-inputs-k-then-k-n c =
    omega (arith, c.if-k-n.true, c.loop-k.invariant.0)

pub bounds-delays-k-then-k-n : goal.bounds-delays-k-then-k-n
bounds-delays-k-then-k-n c =
    let l = c.loop-k.invariant in
    omega (arith, c.if-k-n.true, l.0, l.1.alike)

-- One item is left.
last : (s : After-served-t) →
    s.loop-k.k < length s.args.inputs.now
last s = let t = s.if-k-n.true in omega (arith, t, s.loop-k.invariant.0)

pub returns-then-t-ne0-3 : goal.returns-then-t-ne0-3
returns-then-t-ne0-3 c =
    rw c.ended-then-t-ne0-3.ensures
    (ends _ _ _ _ _ _ _ _ c.loop-k.invariant.1 _ (last (goal.at.returns-then-t-ne0-3 c).After-served-t)
    c.served-t.ensures c.if-t-ne0-3.true)

pub offset_bounds-out-k-then-k-n : goal.offset_bounds-out-k-then-k-n
offset_bounds-out-k-then-k-n c =
    let t = last (goal.at.offset_bounds-out-k-then-k-n c).After-served-t in
    let h : c.loop-k.k < length c.args.out.now = omega (arith, t, c.loop-k.invariant.1.room) in
    scaled_Fits _ _ 4 h c.well_formed.1.1.1.1.0.1

pub bounds-out-k-then-k-n : goal.bounds-out-k-then-k-n
bounds-out-k-then-k-n c =
    let g = c.loop-k.invariant.1 in
    let t = last (goal.at.bounds-out-k-then-k-n c).After-served-t in
    omega (arith, t, g.room, g.half.long)

pub overflow_add-i-then-k-n : goal.overflow_add-i-then-k-n
overflow_add-i-then-k-n c = record { fits = omega (arith, c.loop-k.invariant.1.bound) }

pub overflow_add-k-then-k-n : goal.overflow_add-k-then-k-n
overflow_add-k-then-k-n c =
    let t = last (goal.at.overflow_add-k-then-k-n c).After-served-t in
    record { fits = omega (arith, t, c.well_formed.1.1.0.1) }

pub returns-then-k-n : goal.returns-then-k-n
returns-then-k-n c =
    let t = c.loop-k-test.false in
    let l = last (goal.at.returns-then-k-n c).After-served-t in
    rw c.ended-then-k-n.ensures
    (at-end _ _ _ _ _ _ _ _
    (goes_on _ _ _ _ _ _ _ _ c.loop-k.invariant.1 _ l c.served-t.ensures c.if-t-ne0-3.false)
    (omega (arith, t, c.loop-k.invariant.0)))

pub returns : goal.returns
returns c =
    let t = c.if-k-n.false in
    let l = c.loop-k.invariant in
    rw c.ended-2.ensures (at-end _ _ _ _ _ _ _ _ l.1 (omega (arith, t, l.0)))
