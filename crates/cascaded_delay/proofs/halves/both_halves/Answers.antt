-- `cascaded_delay::halves::both_halves` meets its contract, by the law about both halves. Assumes nothing.
use mathlib.Core.Path.{ap}
use native.Mathlib.Omega.{arith}
use Rattle.fir_filter.specs.declared.Two.{Two}
use Rattle.kernels.specs.Kernels.{read_by}
use Rattle.cascaded_delay.specs.Halves.{turn_of}
use Rattle.cascaded_delay.proofs.Steps.{joined, both_halves}
use Rattle.cascaded_delay.proofs.halves.both_halves.Goals as goal

pub overflow_add-state : goal.overflow_add-state
overflow_add-state c = omega (arith, c.requires.room)

pub half-first-requires : goal.half-first-requires
half-first-requires c =
    (c.requires, omega arith, ap (λ (z : Two). z.first) c.outputs-two.ensures)

pub half-requires : goal.half-requires
half-requires c =
    (c.requires, omega arith, ap (λ (z : Two). z.second) c.outputs-two.ensures)

pub returns : goal.returns
returns c =
    let a = c.args in
    let h = c.half-first.ensures in
    let both = both_halves
    (turn_of (read_by a.kernel a.table.now) a.state a.halfband.now a.up1.now a.from a.delay)
    (joined a.state.inner a.up2.now a.down2.now a.down1.now a.ring.now) _ _ _ _ _ _ _ _ _ _ (
      h.value,
      (h.up2_after, (h.down2_after, (h.down1_after, h.ring_after))),
    ) (
      c.half.ensures.value,
      (
        c.half.ensures.up2_after,
        (c.half.ensures.down2_after, (c.half.ensures.down1_after, c.half.ensures.ring_after)),
      ),
    ) in
    record {
      value = both.0;
      up2_after = both.1.0;
      down2_after = both.1.1.0;
      down1_after = both.1.1.1.0;
      ring_after =
          both.1.1.1.1;
    }
