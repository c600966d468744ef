-- `cascaded_delay::halves::half` meets its contract, by the law about a half. Assumes nothing.
use mathlib.Core.Path.{ap, ◌∙◌}
use native.Mathlib.Omega.{arith}
use lib.ListN.{length, length-set}
use lib.Ieee.{of_bits}
use Rattle.fir_filter.specs.declared.Two.{Two}
use Rattle.kernels.specs.Kernels.{read_by}
use Rattle.cascaded_delay.specs.Halves.{turn_of}
use Rattle.cascaded_delay.proofs.Steps.{one-half}
use Rattle.cascaded_delay.proofs.halves.half.Goals as goal

pub overflow_add-twice-2 : goal.overflow_add-twice-2
overflow_add-twice-2 c = omega (arith, c.requires.0.room, c.requires.1)

pub quarter-first-requires : goal.quarter-first-requires
quarter-first-requires c =
    (c.requires.0, omega (arith, c.requires.1), omega arith, ap (λ (z : Two). z.first) c.outputs-two.ensures)

pub quarter-second-requires : goal.quarter-second-requires
quarter-second-requires c =
    (c.requires.0, omega (arith, c.requires.1), omega arith, ap (λ (z : Two). z.second) c.outputs-two.ensures)

pub overflow_mul-state : goal.overflow_mul-state
overflow_mul-state c =
    omega (arith, c.requires.0.room)

pub overflow_mul-at : goal.overflow_mul-at
overflow_mul-at c =
    omega (arith, c.requires.1)

pub overflow_add-state : goal.overflow_add-state
overflow_add-state c =
    omega (arith, c.requires.0.room, c.requires.1)

pub overflow_add-state-2 : goal.overflow_add-state-2
overflow_add-state-2 c =
    omega (arith, c.requires.0.room, c.requires.1)

-- Only the push changes the second upsampler's history.
pub shape_of-up2 : goal.shape_of-up2
shape_of-up2 c =
    ap length c.push.ensures ∙ simp length-set

pub returns : goal.returns
unfolding of_bits
returns c =
    let a = c.args in
    let both = one-half
    (turn_of (read_by a.kernel a.table.now) a.state a.halfband.now a.up1.now a.from a.delay)
    a.p (record {
      inner = a.inner;
      up2 = a.up2.now;
      down2 = a.down2.now;
      down1 = a.down1.now;
      ring = a.ring.now;
    }) c.requires.2 c.push.ensures (
      c.quarter-first.ensures.value,
      (c.quarter-first.ensures.down2_after, c.quarter-first.ensures.ring_after),
    )
    (c.quarter-second.ensures.value, (c.quarter-second.ensures.down2_after, c.quarter-second.ensures.ring_after))
    c.output-lowered.ensures c.push-2.ensures in
    record {
      value = both.0;
      up2_after = both.1.0;
      down2_after = both.1.1.0;
      down1_after = both.1.1.1.0;
      ring_after =
          both.1.1.1.1;
    }
