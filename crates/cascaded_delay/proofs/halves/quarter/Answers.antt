-- `cascaded_delay::halves::quarter` meets its contract, by the law about a quarter. Assumes nothing.
use native.Mathlib.Omega.{arith}
use lib.Ieee.{of_bits}
use Rattle.kernels.specs.Kernels.{read_by}
use Rattle.cascaded_delay.specs.Halves.{high_of}
use Rattle.cascaded_delay.proofs.Steps.{one-quarter}
use Rattle.cascaded_delay.proofs.halves.quarter.Goals as goal

pub overflow_mul-state-2 : goal.overflow_mul-state-2
overflow_mul-state-2 c =
    omega (arith, c.requires.0.room)

pub overflow_add-state : goal.overflow_add-state
overflow_add-state c =
    omega (arith, c.requires.0.room, c.requires.1, c.requires.2)

pub overflow_mul-state : goal.overflow_mul-state
overflow_mul-state c = omega (arith, c.requires.0.small)

pub returns : goal.returns
unfolding of_bits
returns c =
    let a = c.args in
    let both = one-quarter (read_by a.kernel a.table.now) a.state a.halfband.now a.from a.delay a.p a.q
    a.up2.now (high_of a.inner a.down2.now a.ring.now) c.requires.3 c.high_delay-y.ensures
    c.step-s.ensures.value c.step-s.ensures.ring_after c.push.ensures in
    record { value = both.0; down2_after = both.1.0; ring_after = both.1.1 }
