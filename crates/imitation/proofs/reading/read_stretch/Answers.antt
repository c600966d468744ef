-- `imitation::reading::read_stretch` meets its contract. The loop's invariant is `Half` of crates/stretch: up to the
-- place k the samples are answered. Assumes nothing.
use mathlib.Core.Path.{◌≡◌}
use native.Mathlib.Omega.{arith}
use Rattle.stretch.proofs.Turns.{begun, turn, stopped, ended, done, in_place}
use Rattle.imitation.proofs.reading.read_stretch.Goals as goal

pub loop-k-init : goal.loop-k-init
loop-k-init c = begun _ _ _ _ _

pub bounds-samples-k : goal.bounds-samples-k
bounds-samples-k c = let i = c.loop-k.invariant in omega (arith, i.long)

pub returns-then-c-ne0 : goal.returns-then-c-ne0
returns-then-c-ne0 c =
    let e = c.hear-c.ensures in
    let i = c.loop-k.invariant in
    let r =
    stopped _ _ _ _ _ i _ (omega arith) (omega arith) _ e.number_value c.if-c-ne0.true e.state_value e.ring_after in
    let d = done _ _ _ _ _ i (omega arith) in
    record { value = rw (r, d); ring_after = rw r; samples_after = rw r (in_place _ _ _ _ _ i (omega arith)) }

pub bounds-samples-k-in-loop-k : goal.bounds-samples-k-in-loop-k
bounds-samples-k-in-loop-k c = let i = c.loop-k.invariant in omega (arith, i.long)

pub loop-k-preserved : goal.loop-k-preserved
loop-k-preserved c =
    let e = c.hear-c.ensures in
    turn _ _ _ _ _ c.loop-k.invariant _ (omega arith) (omega arith) e.number_value c.if-c-ne0.false e.state_value
    e.ring_after e.sample_value

pub returns : goal.returns
returns c =
    let i = c.loop-k.invariant in
    let r = ended _ _ _ _ _ i (omega arith) in
    let d = done _ _ _ _ _ i (omega arith) in
    let e : c.loop-k.k ≡ c.min-n.result = omega arith in
    record { value = rw (← e, r, d); ring_after = rw r; samples_after = rw r (in_place _ _ _ _ _ i (omega arith)) }
