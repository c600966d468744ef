-- `turned_bytes::turn_each` meets its contract: each turn of the loop reverses one more sample. Assumes nothing.
use native.Mathlib.Omega.{arith}
use Rattle.turned_bytes.proofs.Turns.{one-within, one-count, none-turned, more-turned, all-turned}
use Rattle.turned_bytes.proofs.turn_each.Goals as goal

pub overflow_mul-k : goal.overflow_mul-k
overflow_mul-k g c =
    omega (
      arith,
      c.loop-k.invariant.long,
      one-within g.row.WIDTH _ _ _ c.loop-k-test.true (omega (arith, c.requires)),
    )

pub turn_one-requires-clause-within : goal.turn_one-requires-clause-within
turn_one-requires-clause-within g c =
    omega (
      arith,
      c.loop-k.invariant.long,
      one-within g.row.WIDTH _ _ _ c.loop-k-test.true (omega (arith, c.requires)),
    )

pub loop-k-preserved : goal.loop-k-preserved
loop-k-preserved g c =
    more-turned c.loop-k.invariant (one-within g.row.WIDTH _ _ _ c.loop-k-test.true (omega (arith, c.requires)))
    c.turn_one.ensures

pub returns : goal.returns
returns g c =
    all-turned _ c.loop-k.invariant
    (one-count g.row.WIDTH _ _ _ c.loop-k.auto.k-end c.loop-k-test.false (omega (arith, c.requires)))

pub loop-k-init : goal.loop-k-init
loop-k-init g c = none-turned
