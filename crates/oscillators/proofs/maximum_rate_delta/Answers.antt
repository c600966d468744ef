-- `oscillators::maximum_rate_delta` meets its contract. The loop's invariant: the depths that are left, with the sum so
-- far, give what all give. Assumes nothing.
use Rattle.std.proofs.Common.{◌<◌, ◌≤◌, length, refl, sym, ◌∙◌, arith}
use lib.ListN.{drop_of_length-le}
use Rattle.oscillator_arithmetic.specs.Arithmetic.{squares_from, rate_delta}
use Rattle.oscillators.specs.Answers.{answered_by, depths_ok}
use Rattle.oscillators.proofs.Squares.{one_more, passes, fails}
use Rattle.oscillators.proofs.maximum_rate_delta.Goals as goal

pub loop-depth-init : goal.loop-depth-init
loop-depth-init c = record { sum = refl; good = refl }

pub returns-then-not-depth_ok : goal.returns-then-not-depth_ok
unfolding answered_by
returns-then-not-depth_ok c =
    let xs = c.args.depths_cents.now in
    rw (
      ← c.loop-depth.invariant.good,
      fails xs c.loop-depth.depth-index (omega arith) (sym c.depth_ok.ensures ∙ c.if-not-depth_ok.true),
    )

pub loop-depth-preserved : goal.loop-depth-preserved
loop-depth-preserved c =
    let xs = c.args.depths_cents.now in
    let i = c.loop-depth.depth-index in
    let h : i < length xs = omega arith in
    record {
      sum = rw (c.speed_delta-delta.ensures, ← one_more xs i h c.loop-depth.sum) c.loop-depth.invariant.sum;
      good = rw (← passes xs i h (sym c.depth_ok.ensures ∙ c.if-not-depth_ok.false)) c.loop-depth.invariant.good;
    }

pub returns : goal.returns
unfolding answered_by depths_ok squares_from rate_delta
returns c =
    let xs = c.args.depths_cents.now in
    let past : length xs ≤ c.loop-depth.depth-index = omega arith in
    rw (
      ← c.loop-depth.invariant.good,
      ← c.loop-depth.invariant.sum,
      c.square_root.ensures,
      drop_of_length-le xs past,
    )
