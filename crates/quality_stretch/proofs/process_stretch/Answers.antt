-- `quality_stretch::process_stretch` meets its contract: the loop keeps `Going`, by `Fading`, and from the place where
-- the quality is at rest `read_on` does the rest. Assumes nothing.
use borrow.Author.Rules.{scaled_Fits}
use mathlib.Core.Path.{refl, sym, ◌∙◌}
use Prim.Native.Nat.{◌-◌, ◌<◌}
use native.Mathlib.Omega.{arith}
use borrow.Rule.Slice.PartMut.{same_len_mid}
use lib.ListN.{length}
use Rattle.quality_stretch.proofs.Fading.{Going, tail-length, refused-first, starts}
use Rattle.quality_stretch.proofs.Fading.{at-end, ends, goes_on, done-few, reads_on, whole-at-rest}
use Rattle.quality_stretch.proofs.process_stretch.Goals as goal
use Rattle.quality_stretch.proofs.process_stretch.Goals.{Then-at_rest}

pub returns-then-no-ne0 : goal.returns-then-no-ne0
returns-then-no-ne0 c =
    let a = c.args in
    rw c.ended.ensures
    (refused-first a.sets.now a.max_rate a.quality a.playback_rate a.state a.ring.now
    a.inputs.now a.delays.now a.out.now _ c.refused_first-no.ensures c.if-no-ne0.true)

-- The stretch begins at rest.
begins : (c : Then-at_rest)
    → let a = c.args in
    Going a.sets.now a.max_rate a.quality a.playback_rate a.state a.ring.now a.inputs.now
    a.delays.now a.out.now a.state a.ring.now a.out.now 0
begins c =
    starts _ _ _ _ _ _ _ _ _ c.refused_first-no.ensures c.if-no-ne0.false

pub read_on-requires : goal.read_on-requires
read_on-requires c =
    let g = begins (goal.at.read_on-requires c).Then-at_rest in
    (g.ready, sym c.at_rest.ensures ∙ c.if-at_rest.true, g.alike, g.room)

pub shape_of-ring-then-at_rest : goal.shape_of-ring-then-at_rest
shape_of-ring-then-at_rest c = c.read_on.auto.ring

pub shape_of-out-then-at_rest : goal.shape_of-out-then-at_rest
shape_of-out-then-at_rest c = c.read_on.auto.out

pub returns-then-at_rest : goal.returns-then-at_rest
returns-then-at_rest c =
    whole-at-rest _ _ _ _ _ _ _ _ _ (begins (goal.at.returns-then-at_rest c).Then-at_rest) c.read_on.ensures

pub loop-k-init : goal.loop-k-init
loop-k-init c =
    (refl, starts _ _ _ _ _ _ _ _ _ c.refused_first-no.ensures c.if-no-ne0.false)

pub slice_bounds-read_on-count : goal.slice_bounds-read_on-count
slice_bounds-read_on-count c = c.loop-k.invariant.1.place

pub slice_bounds-read_on-count-then-at_rest-2 : goal.slice_bounds-read_on-count-then-at_rest-2
slice_bounds-read_on-count-then-at_rest-2 c = let g = c.loop-k.invariant.1 in omega (arith, g.place, g.alike)

pub slice_bounds-read_on-count-then-at_rest-2-2 : goal.slice_bounds-read_on-count-then-at_rest-2-2
slice_bounds-read_on-count-then-at_rest-2-2 c =
    let g = c.loop-k.invariant.1 in
    omega (arith, g.place, g.room, g.half.long)

pub read_on-r-requires : goal.read_on-r-requires
read_on-r-requires c =
    let a = c.args in
    let g = c.loop-k.invariant.1 in
    let xs = tail-length c.loop-k.k a.inputs.now in (
      g.ready,
      sym c.at_rest-in-loop-k.ensures ∙ c.if-at_rest-2.true,
      tail-length c.loop-k.k a.delays.now ∙ rw g.alike (sym xs),
      tail-length c.loop-k.k c.loop-k.out ∙ rw (g.half.long, g.room) (sym xs),
    )

pub overflow_add-k : goal.overflow_add-k
overflow_add-k c =
    let d = done-few _ _ _ _ _ _ _ _ _ c.loop-k.invariant.1 c.read_on-r.ensures in
    record { fits = omega (arith, d, c.well_formed.1.1.1.1.0.1) }

pub shape_of-ring-then-at_rest-2 : goal.shape_of-ring-then-at_rest-2
shape_of-ring-then-at_rest-2 c =
    c.read_on-r.auto.ring ∙ c.loop-k.invariant.1.kept

pub shape_of-out-then-at_rest-2 : goal.shape_of-out-then-at_rest-2
shape_of-out-then-at_rest-2 c =
    let l = c.loop-k in
    same_len_mid l.k (length l.out - l.k) l.out c.read_on-r.new.out
    c.read_on-r.auto.out
    ∙ l.invariant.1.half.long

pub returns-then-at_rest-2 : goal.returns-then-at_rest-2
returns-then-at_rest-2 c =
    rw c.ended-then-at_rest-2.ensures (reads_on _ _ _ _ _ _ _ _ _ c.loop-k.invariant.1 c.read_on-r.ensures)

pub bounds-inputs-k : goal.bounds-inputs-k
bounds-inputs-k c = let t = c.loop-k-test.true in omega arith

pub bounds-delays-k : goal.bounds-delays-k
bounds-delays-k c =
    let t = c.loop-k-test.true in
    omega (arith, c.loop-k.invariant.1.alike)

pub shape_of-ring-then-c-ne0 : goal.shape_of-ring-then-c-ne0
shape_of-ring-then-c-ne0 c =
    c.single-c.auto.ring ∙ c.loop-k.invariant.1.kept

pub shape_of-out-then-c-ne0 : goal.shape_of-out-then-c-ne0
shape_of-out-then-c-ne0 c =
    c.loop-k.invariant.1.half.long

pub returns-then-c-ne0 : goal.returns-then-c-ne0
returns-then-c-ne0 c =
    let t = c.loop-k-test.true in
    rw c.ended-then-c-ne0.ensures
    (ends _ _ _ _ _ _ _ _ _ c.loop-k.invariant.1 _ (omega arith) (
      c.single-c.ensures.state_value,
      (
        c.single-c.ensures.number_value,
        (c.single-c.ensures.sample_value, c.single-c.ensures.ring_after),
      ),
    ) c.if-c-ne0.true)

pub offset_bounds-out-k-in-loop-k : goal.offset_bounds-out-k-in-loop-k
offset_bounds-out-k-in-loop-k c =
    let t = c.loop-k-test.true in
    let h : c.loop-k.k < length c.args.out.now = omega (arith, c.loop-k.invariant.1.room) in
    scaled_Fits _ _ 4 h c.well_formed.1.1.1.1.1.1.1.1.0.1

pub bounds-out-k : goal.bounds-out-k
bounds-out-k c =
    let t = c.loop-k-test.true in
    let g = c.loop-k.invariant.1 in
    omega (arith, g.room, g.half.long)

pub overflow_add-k-in-loop-k : goal.overflow_add-k-in-loop-k
overflow_add-k-in-loop-k c =
    let t = c.loop-k-test.true in
    record { fits = omega (arith, c.well_formed.1.1.1.1.0.1) }

pub loop-k-smaller : goal.loop-k-smaller
loop-k-smaller c =
    let t = c.loop-k-test.true in
    omega arith

pub loop-k-preserved : goal.loop-k-preserved
loop-k-preserved c =
    let t = c.loop-k-test.true in (
      refl,
      goes_on _ _ _ _ _ _ _ _ _ c.loop-k.invariant.1 _ (omega arith) (
        c.single-c.ensures.state_value,
        (
          c.single-c.ensures.number_value,
          (c.single-c.ensures.sample_value, c.single-c.ensures.ring_after),
        ),
      ) c.if-c-ne0.false,
    )

pub shape_of-ring : goal.shape_of-ring
shape_of-ring c = c.loop-k.invariant.1.kept

pub shape_of-out : goal.shape_of-out
shape_of-out c = c.loop-k.invariant.1.half.long

pub returns : goal.returns
returns c =
    let t = c.loop-k-test.false in
    rw c.ended-2.ensures (at-end _ _ _ _ _ _ _ _ _ c.loop-k.invariant.1 (omega arith))
