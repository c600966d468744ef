-- `residual::steps::stretched` meets its contract: before each block, what has been counted and what is left make the
-- whole. Assumes nothing.
use Rattle.std.proofs.Common.{◌≡◌, [], ◌++◌, length, inl, inr, ◌∙◌, arith}
use Rattle.std.specs.Iterator.Adapters.{zip_first, zip_second}
use Rattle.std.specs.Slice.Iter.{chunks_rest}
use Rattle.residual.specs.Report.{differences}
use Rattle.residual.specs.Tallies.{Ready}
use Rattle.residual.proofs.Blocked.{ready-front, ready-back, folded, none-left}
use Rattle.residual.proofs.steps.stretched.Goals as goal
use Rattle.residual.proofs.steps.stretched.Goals.{In-Some}

pub loop-x-init : goal.loop-x-init
loop-x-init c =
    let i = c.into_iter-x-iterator.ensures.into_iter_gives in
    let z = c.zip-x-items.ensures in record {
      first_size = rw (i, z.first) c.chunks.ensures.size;
      second_size = rw (i, z.second) c.chunks-2.ensures.size;
      ready = rw (i, z.first, z.second, c.chunks.ensures.rest, c.chunks-2.ensures.rest) c.requires;
      left = rw (i, z.first, z.second, c.chunks.ensures.rest, c.chunks-2.ensures.rest);
    }

-- The two blocks, and what is left behind them.
cut : (c : In-Some) → let l = c.loop-x in
    let us = chunks_rest (zip_first c.next.new.self) in
    let vs = chunks_rest (zip_second c.next.new.self) in
    (length c.in-Some.x.now ≡ length c.in-Some.y.now) × Ready l.now (c.in-Some.x.now ++ us) (c.in-Some.y.now ++ vs)
cut c =
    let h = c.in-Some.ensures.steps in
    let inv = c.loop-x.invariant in (
      omega (arith, h.0.1.1, h.1.1.1, inv.first_size, inv.second_size, inv.ready.alike.long),
      rw (h.0.1.0, h.1.1.0) at inv.ready,
    )

pub block-now-requires : goal.block-now-requires
block-now-requires c =
    let k = cut (goal.at.block-now-requires c).In-Some in
    let h = c.in-Some.ensures.steps in (
      ready-front c.loop-x.now c.in-Some.x.now _ c.in-Some.y.now _ k.0 k.1,
      omega (arith, h.0.1.1, c.loop-x.invariant.first_size),
    )

pub loop-x-preserved : goal.loop-x-preserved
loop-x-preserved c =
    let k = cut (goal.at.loop-x-preserved c).In-Some in
    let h = c.in-Some.ensures.steps in
    let inv = c.loop-x.invariant in record {
      first_size = h.0.0 ∙ inv.first_size;
      second_size = h.1.0 ∙ inv.second_size;
      ready = rw c.block-now.ensures (ready-back c.loop-x.now c.in-Some.x.now _ c.in-Some.y.now _ k.0 k.1);
      left =
          rw c.block-now.ensures (folded c.loop-x.now c.in-Some.x.now _ c.in-Some.y.now _ k.0 k.1)
          ∙ (rw (h.0.1.0, h.1.1.0) at inv.left);
    }

pub returns : goal.returns
returns c =
    let none = elim c.in-None.ensures.steps as (λ _. differences (chunks_rest (zip_first c.loop-x.x-iterator))
    (chunks_rest (zip_second c.loop-x.x-iterator)) ≡ []) [
      | inl a ↦ none-left _ _ (inl a.1.1.0)
      | inr b ↦ none-left _ _ (inr b.1.1.0)
    ] in
    rw none at c.loop-x.invariant.left
