-- `quality_stretch::rest::read_each` meets its contract: the loop keeps `On`, by `AtRest`. Assumes nothing.
use mathlib.Core.Path.{refl, ◌∙◌}
use native.Mathlib.Omega.{arith}
use Rattle.quality_stretch.proofs.AtRest.{starts, at-end, ends, goes_on}
use Rattle.quality_stretch.proofs.rest.read_each.Goals as goal

pub loop-k-init : goal.loop-k-init
loop-k-init c = (
  refl,
  c.choice_or_zero-choice.ensures,
  starts _ _ _ _ _ _ _ _ _ c.requires.0 c.requires.1 c.requires.2
      c.requires.3,
)

pub bounds-inputs-k : goal.bounds-inputs-k
bounds-inputs-k c = let t = c.loop-k-test.true in omega arith

pub bounds-delays-k : goal.bounds-delays-k
bounds-delays-k c =
    let t = c.loop-k-test.true in
    omega (arith, c.loop-k.invariant.2.alike)

pub shape_of-ring-then-t-ne0 : goal.shape_of-ring-then-t-ne0
shape_of-ring-then-t-ne0 c =
    c.served-t.auto.ring ∙ c.loop-k.invariant.2.kept

pub shape_of-out-then-t-ne0 : goal.shape_of-out-then-t-ne0
shape_of-out-then-t-ne0 c =
    c.loop-k.invariant.2.half.long

pub returns-then-t-ne0 : goal.returns-then-t-ne0
returns-then-t-ne0 c =
    let t = c.loop-k-test.true in
    let i = c.loop-k.invariant in
    rw (c.ended.ensures, c.counted.ensures)
    (ends _ _ _ _ _ _ _ _ _ i.2 _ (omega arith) i.1
    (c.served-t.ensures.refusal_value, (c.served-t.ensures.sample_value, c.served-t.ensures.ring_after))
    c.if-t-ne0.true)

pub bounds-out-k : goal.bounds-out-k
bounds-out-k c =
    let t = c.loop-k-test.true in
    omega (arith, c.loop-k.invariant.2.room, c.loop-k.invariant.2.half.long)

pub overflow_add-i : goal.overflow_add-i
overflow_add-i c =
    record { fits = omega (arith, c.loop-k.invariant.2.bound) }

pub loop-k-preserved : goal.loop-k-preserved
loop-k-preserved c =
    let t = c.loop-k-test.true in
    let i = c.loop-k.invariant in (
      refl,
      i.1,
      goes_on _ _ _ _ _ _ _ _ _ i.2 _ (omega arith) i.1
          (c.served-t.ensures.refusal_value, (c.served-t.ensures.sample_value, c.served-t.ensures.ring_after))
          c.if-t-ne0.false,
    )

pub shape_of-ring : goal.shape_of-ring
shape_of-ring c = c.loop-k.invariant.2.kept

pub shape_of-out : goal.shape_of-out
shape_of-out c = c.loop-k.invariant.2.half.long

pub returns : goal.returns
returns c =
    let t = c.loop-k-test.false in
    rw (c.ended-2.ensures, c.counted-2.ensures)
    (at-end _ _ _ _ _ _ _ _ _ c.loop-k.invariant.2 (omega arith))
