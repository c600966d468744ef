-- `told_oversampled::readings::summed` meets its contract: before each turn of the loop the first k readings are
-- summed. Assumes nothing.
use Rattle.std.proofs.Common.{◌≡◌, sym, ap, ◌∙◌, subst, arith, rules}
use Rattle.told_oversampled.specs.Reckoned.{Room, reckoned}
use Rattle.told_oversampled.specs.declared.readings.Sums.{Sums}
use Rattle.told_oversampled.proofs.OneReading.{room_for, summed-more}
use Rattle.told_oversampled.proofs.readings.summed.Goals as goal

pub loop-k-init : goal.loop-k-init
unfolding reckoned
loop-k-init c = (omega arith, rw c.nothing.ensures)

pub overflow_add-k : goal.overflow_add-k
overflow_add-k c = search rules

pub with_reading-s-requires : goal.with_reading-s-requires
with_reading-s-requires c =
    let l = c.loop-k in
    let a = c.args in (
      subst Room (sym l.invariant.1) (room_for _ _ a.len a.taps a.inner (omega arith) l.k (omega arith)
          (omega arith)),
      omega arith,
    )

pub overflow_add-k-in-loop-k : goal.overflow_add-k-in-loop-k
overflow_add-k-in-loop-k c = search rules

pub loop-k-smaller : goal.loop-k-smaller
loop-k-smaller c = search rules

pub loop-k-preserved : goal.loop-k-preserved
loop-k-preserved c =
    let l = c.loop-k in (
      omega arith,
      summed-more _ _ _ _ _ l.k l.invariant.1 c.which.ensures c.high_delay-y.ensures
          c.with_reading-s.ensures,
    )

pub returns : goal.returns
returns c =
    let l = c.loop-k in
    let all : l.k ≡ c.args.factor = omega (arith, l.invariant.0) in
    ap (λ (s : Sums). s.absent) (l.invariant.1 ∙ ap (reckoned _ _ _ _ _) all)
