-- `render_blocks::render_block` meets its contract. The loop's invariant is `Half` of Turns: the first k samples of the
-- block are rendered. Assumes nothing.
use mathlib.Core.Path.{◌≡◌, refl, ap}
use mathlib.Core.List.{◌++◌}
use Prim.Native.Nat.{◌+◌, ◌-◌, ◌*◌}
use native.Mathlib.Omega.{arith}
use lib.ListN.{take, drop, length-take, length-drop}
use Rattle.render_samples.specs.Samples.{held_of}
use Rattle.render_blocks.proofs.Turns.{Half, begun, turn, ended-length, ended-after, ended-rendered}
use Rattle.render_blocks.proofs.render_block.Goals as goal

pub loop-k-init : goal.loop-k-init
loop-k-init c = begun _ _ _

pub put_sample-s-requires : goal.put_sample-s-requires
put_sample-s-requires c =
    let half = c.loop-k.invariant in
    simp (length-take, length-drop) (omega (arith, half.long))

pub loop-k-preserved : goal.loop-k-preserved
loop-k-preserved c =
    let l = c.loop-k in
    let a = c.args in
    let p = c.put_sample-s in
    let at = l.k * 4 in
    let next : at + 4 ≡ (l.k + 1) * 4 = omega arith in
    -- The block after a turn.
    let done : Half a.table.now (held_of a.state a.ring.now) a.block.now (held_of p.result p.new.ring)
    (take at l.block ++ (p.new.word ++ drop (at + 4 - at) (drop at l.block))) (at + 4) =
    turn _ (at + 4 - at) l.invariant (omega arith) (omega (arith, l.invariant.long)) refl
    (rw (p.ensures.value, p.ensures.ring_after)) p.ensures.word_after in
    rw (← next) done

pub returns : goal.returns
returns c =
    let half = c.loop-k.invariant in
    let e = ended-after _ half (omega (arith, half.long)) in
    record {
      state_value = ap (λ h. h.state) e;
      length_value = omega arith;
      ring_after = ap (λ h. h.ring) e;
      block_after = ended-rendered _ half (omega (arith, half.long));
    }
